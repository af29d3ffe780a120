-- What the outcome of comparing two files means, for the bytes that came of each and those that were written.
use Rattle.std.specs.Prelude.{◌≡◌, ◌⊎◌, ℕ, ◌≤◌, Bool, true, false, [], ◌∷◌, ◌++◌, length, Option, Some, None, codes}
use Rattle.std.specs.Io.{StartsWith}
use Rattle.std.specs.Io.KnownBytes.{Consumes, Appends}
use Rattle.ged_line.specs.Bytes.{Bytes, line_feed}
use Rattle.ged_tree.specs.Trees.{Trees}
use Rattle.ged_schema.specs.declared.profile.Profile.{Profile}
use Rattle.ged_canon.specs.declared.edition.Edition.{Edition}
use Rattle.ged_canon.specs.Steps.{Equivalent}
use Rattle.ged_tool.specs.Run.{IsWhole, IsTooLong}
use Rattle.ged_tool.specs.Same.{AreComparedBy, IsSameRefusal}
use Rattle.ged_faults.specs.declared.faults.Which.{Which}
use Rattle.ged_faults.specs.declared.faults.Which.TheVariants.{First, Second}
use Rattle.ged_faults.specs.declared.faults.Fault.{Fault}
use Rattle.ged_faults.specs.declared.faults.Fault.TheVariants.{InFile, TooLong, ReadFailed, WriteFailed, Memory}
use Rattle.ged_faults.specs.declared.faults.Outcome.{Outcome}
use Rattle.ged_faults.specs.declared.faults.Outcome.TheVariants.{Done, Different, Failed}

-- what came of a file, and what its reader has left
pub record Came : Type 0 where
  pub bytes : Bytes
  pub left : Option Bytes

abbrev pub IsAllOf : ℕ → Came → Type 0
IsAllOf limit came = IsWhole limit came.bytes came.left

-- the line that tells whether the files are the same
abbrev pub same_line : Bool → Bytes
same_line true = codes "same" ++ line_feed ∷ []
same_line false = codes "different" ++ line_feed ∷ []

-- What a fault of one of the files says. The second is read only once the first came whole, and the files are judged only
-- once both came whole. Memory may be wanting for the first while it is read, or once both came.
abbrev pub TellsOfFile : Profile → ℕ → Came → Came → Which → Fault → Type 0
TellsOfFile profile limit first second which (InFile line kind) =
    IsAllOf limit first × IsAllOf limit second × IsSameRefusal profile first.bytes second.bytes which (InFile line kind)
TellsOfFile profile limit first second First TooLong = IsTooLong limit first.bytes × (second.bytes ≡ [])
TellsOfFile profile limit first second Second TooLong = IsAllOf limit first × IsTooLong limit second.bytes
TellsOfFile profile limit first second First ReadFailed = (length first.bytes ≤ limit) × (second.bytes ≡ [])
TellsOfFile profile limit first second Second ReadFailed = IsAllOf limit first × (length second.bytes ≤ limit)
TellsOfFile profile limit first second First (Memory error) =
    ((length first.bytes ≤ limit) × (second.bytes ≡ [])) ⊎ (IsAllOf limit first × IsAllOf limit second)
TellsOfFile profile limit first second Second (Memory error) = IsAllOf limit first × (length second.bytes ≤ limit)
TellsOfFile profile limit first second which WriteFailed = ⊥

-- What an outcome says, where `Becomes` says which files are the same. Where a file has a fault nothing was written; where the
-- writer failed, the front of the answer.
abbrev pub SameMeans : Profile → (Becomes : Trees → Trees → Type 0) → ℕ → Came → Came → Bytes → Outcome → Type 0
SameMeans profile Becomes limit first second written Done =
    IsAllOf limit first × IsAllOf limit second
    × AreComparedBy profile Becomes first.bytes second.bytes true × (written ≡ same_line true)
SameMeans profile Becomes limit first second written Different =
    IsAllOf limit first × IsAllOf limit second
    × AreComparedBy profile Becomes first.bytes second.bytes false × (written ≡ same_line false)
SameMeans profile Becomes limit first second written (Failed None fault) =
    (fault ≡ WriteFailed) × IsAllOf limit first × IsAllOf limit second
    × ((same : Bool) × AreComparedBy profile Becomes first.bytes second.bytes same × StartsWith (same_line same) written)
SameMeans profile Becomes limit first second written (Failed (Some which) fault) =
    TellsOfFile profile limit first second which fault × (written ≡ [])

-- A run over two files: some bytes came of each and some were written, and the outcome says what they are. A reader that
-- tells the bytes to come gave these and has the others left; a writer that tells the bytes taken took these.
pub record IsSameRunOf (profile : Profile) (Becomes : Trees → Trees → Type 0) (limit : ℕ) (first_to_come first_left second_to_come second_left taken holds : Option Bytes) (outcome : Outcome) : Type 0 where
  pub first : Bytes
  pub second : Bytes
  pub written : Bytes
  pub first_gave : Consumes first_to_come first_left first
  pub second_gave : Consumes second_to_come second_left second
  pub took : Appends taken holds written
  pub means : SameMeans profile Becomes limit (record { bytes = first; left = first_left }) (record { bytes = second; left = second_left }) written outcome

-- the same of files that are compared in the canonical form
abbrev pub IsSameRun : Profile → Edition → ℕ → (first_to_come first_left second_to_come second_left taken holds : Option Bytes) → Outcome → Type 0
IsSameRun profile edition = IsSameRunOf profile (Equivalent edition)
