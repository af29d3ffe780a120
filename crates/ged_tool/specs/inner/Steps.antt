-- Nothing here need be believed: only private contracts and proofs cite it.
-- What the steps of a run answer. Private functions alone cite these.
use Rattle.std.specs.Prelude.{◌≡◌, ℕ, ◌≤◌, length, Option}
use Rattle.std.specs.Io.{StartsWith}
use Rattle.std.specs.Io.KnownBytes.{Appends}
use Rattle.ged_line.specs.Bytes.{Bytes}
use Rattle.ged_faults.specs.declared.faults.FileFault.{FileFault}
use Rattle.ged_faults.specs.declared.faults.Which.{Which}
use Rattle.ged_faults.specs.declared.faults.Which.TheVariants.{First, Second}
use Rattle.ged_faults.specs.declared.faults.Fault.{Fault}
use Rattle.ged_faults.specs.declared.faults.Fault.TheVariants.{InFile, TooLong, ReadFailed, WriteFailed, Memory}
use Rattle.ged_tool.specs.Run.{IsTooLong}

-- why reading stopped before the whole file had come
abbrev pub StopsReading : ℕ → Bytes → Fault → Type 0
StopsReading limit came TooLong = IsTooLong limit came
StopsReading limit came ReadFailed = length came ≤ limit
StopsReading limit came (Memory error) = length came ≤ limit
StopsReading limit came WriteFailed = ⊥
StopsReading limit came (InFile line kind) = ⊥

-- the one of two files
abbrev pub of_which : Which → (first second : Bytes) → Bytes
of_which First first second = first
of_which Second first second = second

-- a writer took the whole answer
abbrev pub IsWritten : (Bytes → Type 0) → (taken holds : Option Bytes) → Type 0
IsWritten IsAnswer taken holds = (text : Bytes) × IsAnswer text × Appends taken holds text

-- why it did not, and what it took: the front of the answer where writing failed, else nothing
abbrev pub StopsAnswering : (Bytes → Type 0) → (ℕ → FileFault → Type 0) → (taken holds : Option Bytes) → Fault → Type 0
StopsAnswering IsAnswer Stands taken holds (InFile line kind) = Stands line kind × (holds ≡ taken)
StopsAnswering IsAnswer Stands taken holds TooLong = ⊥
StopsAnswering IsAnswer Stands taken holds ReadFailed = ⊥
StopsAnswering IsAnswer Stands taken holds WriteFailed = (text written : Bytes) × IsAnswer text × Appends taken holds written × StartsWith text written
StopsAnswering IsAnswer Stands taken holds (Memory error) = holds ≡ taken
