-- What a run keeps of the files that it read.
use Rattle.std.specs.Prelude.{◌≡◌, ◌⊎◌, ℕ, [], Option, Some, None}
use Rattle.ged_line.specs.Bytes.{Bytes}
use Rattle.ged_tree.specs.Trees.{Trees}
use Rattle.ged_schema.specs.declared.profile.Profile.{Profile}
use Rattle.ged_canon.specs.declared.edition.Edition.{Edition}
use Rattle.ged_tool.specs.Answers.{Answers, FaultAt}
use Rattle.ged_tool.specs.Run.{IsRunOf}
use Rattle.ged_tool.specs.SameRun.{IsSameRunOf}
use Rattle.ged_tool.specs.declared.runs.answer.Command.{Command}
use Rattle.ged_faults.specs.declared.faults.Which.TheVariants.{First, Second}
use Rattle.ged_faults.specs.declared.faults.FileFault.{FileFault}
use Rattle.ged_faults.specs.declared.faults.Fault.{Fault}
use Rattle.ged_faults.specs.declared.faults.Fault.TheVariants.{InFile, TooLong, ReadFailed, WriteFailed, Memory}
use Rattle.ged_faults.specs.declared.faults.Outcome.{Outcome}
use Rattle.ged_faults.specs.declared.faults.Outcome.TheVariants.{Done, Different, Failed}

-- What is kept of the bytes that came of a file, by its fault: all of them where the fault is told of the whole file, none where
-- the file did not come whole. Memory may be wanting before or after that.
abbrev pub IsKeptWith : (kept came : Bytes) → Fault → Type 0
IsKeptWith kept came (InFile line kind) = kept ≡ came
IsKeptWith kept came TooLong = kept ≡ []
IsKeptWith kept came ReadFailed = kept ≡ []
IsKeptWith kept came WriteFailed = kept ≡ came
IsKeptWith kept came (Memory error) = (kept ≡ came) ⊎ (kept ≡ [])

-- what is kept of a file, by the outcome of a command on it
abbrev pub IsKept : (kept came : Bytes) → Outcome → Type 0
IsKept kept came Done = kept ≡ came
IsKept kept came Different = kept ≡ came
IsKept kept came (Failed which fault) = IsKeptWith kept came fault

-- what is kept of two files, by the outcome of their comparison: the one with the fault, and nothing where neither has one
abbrev pub IsKeptOf : (kept first second : Bytes) → Outcome → Type 0
IsKeptOf kept first second Done = kept ≡ []
IsKeptOf kept first second Different = kept ≡ []
IsKeptOf kept first second (Failed None fault) = kept ≡ []
IsKeptOf kept first second (Failed (Some First) fault) = IsKeptWith kept first fault
IsKeptOf kept first second (Failed (Some Second) fault) = IsKeptWith kept second fault

-- a run, and what is kept of the bytes that came
pub record IsKeptRunOf (Answer : Bytes → Bytes → Type 0) (Wrong : Bytes → ℕ → FileFault → Type 0) (limit : ℕ) (to_come left taken holds : Option Bytes) (outcome : Outcome) (bytes : Bytes) : Type 0 where
  pub run : IsRunOf Answer Wrong limit to_come left taken holds outcome
  pub kept : IsKept bytes run.came outcome

-- the same of a command
abbrev pub IsKeptRun : Profile → Edition → Command → ℕ → (to_come left taken holds : Option Bytes) → Outcome → (bytes : Bytes) → Type 0
IsKeptRun profile edition command = IsKeptRunOf (Answers profile edition command) (FaultAt profile command)

-- a run over two files, and what is kept of the bytes that came of both
pub record IsKeptSameRunOf (profile : Profile) (Becomes : Trees → Trees → Type 0) (limit : ℕ) (first_to_come first_left second_to_come second_left taken holds : Option Bytes) (outcome : Outcome) (bytes : Bytes) : Type 0 where
  pub run : IsSameRunOf profile Becomes limit first_to_come first_left second_to_come second_left taken holds outcome
  pub kept : IsKeptOf bytes run.first run.second outcome
