-- What the outcome of a run means, for the bytes that came and those that were written.
use Rattle.std.specs.Prelude.{◌≡◌, ℕ, ◌+◌, ◌≤◌, ◌<◌, [], length, Option, None}
use Rattle.std.specs.Io.{StartsWith}
use Rattle.std.specs.Io.KnownBytes.{Consumes, Appends, IsAtEnd}
use Rattle.ged_line.specs.Bytes.{Bytes}
use Rattle.ged_schema.specs.declared.profile.Profile.{Profile}
use Rattle.ged_canon.specs.declared.edition.Edition.{Edition}
use Rattle.ged_tool.specs.Answers.{Answers, FaultAt}
use Rattle.ged_tool.specs.Limits.{greatest_read}
use Rattle.ged_tool.specs.declared.runs.answer.Command.{Command}
use Rattle.ged_faults.specs.declared.faults.FileFault.{FileFault}
use Rattle.ged_faults.specs.declared.faults.Fault.{Fault}
use Rattle.ged_faults.specs.declared.faults.Fault.TheVariants.{InFile, TooLong, ReadFailed, WriteFailed, Memory}
use Rattle.ged_faults.specs.declared.faults.Outcome.{Outcome}
use Rattle.ged_faults.specs.declared.faults.Outcome.TheVariants.{Done, Different, Failed}

-- what came is the whole file: it is within the limit, and the reader is at its end
pub record IsWhole (limit : ℕ) (came : Bytes) (left : Option Bytes) : Type 0 where
  pub within : length came ≤ limit
  pub ended : IsAtEnd left

-- more came than the limit, by no more than one call of read is asked for
pub record IsTooLong (limit : ℕ) (came : Bytes) : Type 0 where
  pub above : limit < length came
  pub stopped : length came ≤ limit + greatest_read

-- What a fault says, where `Answer` says which text answers the bytes of a file, and `Wrong` which fault they have at which
-- line. Nothing was written, but where writing failed: then the front of the whole answer.
abbrev pub Tells : (Answer : Bytes → Bytes → Type 0) → (Wrong : Bytes → ℕ → FileFault → Type 0) → ℕ → Bytes → Option Bytes → Bytes → Fault → Type 0
Tells Answer Wrong limit came left written (InFile line kind) = IsWhole limit came left × Wrong came line kind × (written ≡ [])
Tells Answer Wrong limit came left written TooLong = IsTooLong limit came × (written ≡ [])
Tells Answer Wrong limit came left written ReadFailed = (length came ≤ limit) × (written ≡ [])
Tells Answer Wrong limit came left written WriteFailed =
    IsWhole limit came left × ((text : Bytes) × Answer came text × StartsWith text written)
Tells Answer Wrong limit came left written (Memory error) = (length came ≤ limit) × (written ≡ [])

-- What an outcome says. A run over one file names no file and compares none.
abbrev pub Means : (Answer : Bytes → Bytes → Type 0) → (Wrong : Bytes → ℕ → FileFault → Type 0) → ℕ → Bytes → Option Bytes → Bytes → Outcome → Type 0
Means Answer Wrong limit came left written Done = IsWhole limit came left × Answer came written
Means Answer Wrong limit came left written Different = ⊥
Means Answer Wrong limit came left written (Failed which fault) = (which ≡ None) × Tells Answer Wrong limit came left written fault

-- A run: some bytes came and some were written, and the outcome says what they are. A reader that tells the bytes to
-- come gave these and has the others left; a writer that tells the bytes taken took these.
pub record IsRunOf (Answer : Bytes → Bytes → Type 0) (Wrong : Bytes → ℕ → FileFault → Type 0) (limit : ℕ) (to_come left taken holds : Option Bytes) (outcome : Outcome) : Type 0 where
  pub came : Bytes
  pub written : Bytes
  pub gave : Consumes to_come left came
  pub took : Appends taken holds written
  pub means : Means Answer Wrong limit came left written outcome

-- the run of a command
abbrev pub IsRun : Profile → Edition → Command → ℕ → (to_come left taken holds : Option Bytes) → Outcome → Type 0
IsRun profile edition command = IsRunOf (Answers profile edition command) (FaultAt profile command)
