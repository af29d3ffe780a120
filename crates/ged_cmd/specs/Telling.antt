-- What is printed of faults: their meanings, and on standard error the line of an outcome's fault.
use Rattle.std.specs.Prelude.{◌≡◌, ℕ, List, [], ◌∷◌, ◌++◌, Bool, true, false, Option, Some, None, codes, decimal, flat_map, ⊤}
use Rattle.std.specs.Io.KnownBytes.{Appends}
use Rattle.ged_tool.specs.declared.runs.answer.Command.TheVariants.{Check}
use Rattle.ged_faults.specs.Faults.{fault_number}
use Rattle.ged_faults.specs.declared.faults.Which.{Which}
use Rattle.ged_faults.specs.declared.faults.Which.TheVariants.{First, Second}
use Rattle.ged_faults.specs.declared.faults.Fault.{Fault}
use Rattle.ged_faults.specs.declared.faults.Fault.TheVariants.{InFile}
use Rattle.ged_faults.specs.declared.faults.Outcome.{Outcome}
use Rattle.ged_faults.specs.declared.faults.Outcome.TheVariants.{Done, Failed}
use Rattle.ged_explain.specs.Names.{Named, fault_name, named_faults}
use Rattle.ged_explain.specs.declared.faults.Meaning.{Meaning}
use Rattle.ged_cmd.specs.Streams.{Writer}
use Rattle.ged_cmd.specs.Tasks.{Task, digest, run}

-- what is printed of what a fault means
abbrev pub meaning_text : Meaning → List ℕ
meaning_text meaning =
    codes "fault " ++ (decimal meaning.number ++ (codes ": " ++ (meaning.name.now ++ (codes "\n  meaning: " ++ (meaning.title.now
    ++ (codes "\n  cause: " ++ (meaning.cause.now ++ (codes "\n  example:\n" ++ (meaning.example.now ++ codes "\n")))))))))

-- the same behind an empty line
abbrev pub next_text : Meaning → List ℕ
next_text meaning = codes "\n" ++ meaning_text meaning

-- what is printed of what several mean, with an empty line between two
abbrev pub meanings_text : List Meaning → List ℕ
meanings_text [] = []
meanings_text (meaning ∷ others) = meaning_text meaning ++ flat_map next_text others

-- the faults whose meaning is asked for: the one that is named, or all
abbrev pub faults_asked : Option Named → List Named
faults_asked None = named_faults
faults_asked (Some named) = named ∷ []

-- how the line begins that tells a fault of one of two files
abbrev pub which_head : Option Which → List ℕ
which_head None = []
which_head (Some First) = codes "first file: "
which_head (Some Second) = codes "second file: "

-- The line that tells a fault: which of two files has it, if it is one of two; its number, of a fault of a file the line at which it
-- stands, and its name.
abbrev pub fault_line : Option Which → Fault → List ℕ
fault_line which (InFile line kind) =
    which_head which ++ (codes "fault " ++ (decimal (fault_number (InFile line kind)) ++ (codes " at line " ++ (decimal line ++ (codes ": "
    ++ (fault_name (InFile line kind) ++ codes "\n"))))))
fault_line which fault =
    which_head which ++ (codes "fault " ++ (decimal (fault_number fault) ++ (codes ": " ++ (fault_name fault ++ codes "\n"))))

-- the line that tells an outcome's fault, if it has one
abbrev pub told_of : Outcome → List ℕ
told_of (Failed which fault) = fault_line which fault
told_of outcome = []

-- whether something may follow that is asked for: an explanation of a fault, or of the notices of `check`
abbrev pub may_follow : (explains : Bool) → Task → Outcome → Bool
may_follow false task outcome = false
may_follow true task (Failed which fault) = true
may_follow true (run profile edition Check file into) Done = true
may_follow true task outcome = false

-- standard error gets the line of the outcome's fault, if it has one, and then nothing but what may follow
pub record IsTold (explains : Bool) (task : Task) (outcome : Outcome) (errors : Writer) : Type 0 where
  pub rest : List ℕ
  pub written : Appends errors.taken errors.holds (told_of outcome ++ rest)
  pub no_more : may_follow explains task outcome ≡ false → rest ≡ []

-- So it is, unless a write to standard error has failed, for each task but `digest`, whose lines begin with the names of files.
abbrev pub Tells : (explains : Bool) → Task → Outcome → (errors : Writer) → Type 0
Tells explains (digest profile edition names) outcome errors = ⊤
Tells explains task outcome errors = errors.failed ≡ false → IsTold explains task outcome errors
