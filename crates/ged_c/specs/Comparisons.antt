-- What a call on two files answers.
use Rattle.std.specs.Prelude.{◌≡◌, ℕ, ◌≤◌, ◌<◌, true, false, length}
use Rattle.ged_line.specs.Bytes.{Bytes}
use Rattle.ged_schema.specs.declared.profile.Profile.{Profile}
use Rattle.ged_canon.specs.declared.edition.Edition.{Edition}
use Rattle.ged_tool.specs.Same.{AreCompared, IsSameRefusal}
use Rattle.ged_tool.specs.Limits.{greatest_limit}
use Rattle.ged_faults.specs.Faults.{fault_number}
use Rattle.ged_faults.specs.declared.faults.Which.{Which}
use Rattle.ged_faults.specs.declared.faults.Which.TheVariants.{First, Second}
use Rattle.ged_faults.specs.declared.faults.Fault.{Fault}
use Rattle.ged_faults.specs.declared.faults.Fault.TheVariants.{TooLong}
use Rattle.ged_c.specs.Settings.{settings_number, last_settings}
use Rattle.ged_c.specs.Calls.{line_of_fault}
use Rattle.ged_c.specs.declared.comparing.Compared.{Compared}
use Rattle.ged_c.specs.declared.comparing.Compared.TheVariants.{Known, Refused, BadSettings}

-- the status by which C is told how a comparison ended, by the numbers of a call on one file
abbrev pub same_status : Compared → ℕ
same_status (Known same) = 0
same_status (Refused which fault) = fault_number fault
same_status BadSettings = 65

-- 1 where the files are known to be the same, else 0
abbrev pub same_flag : Compared → ℕ
same_flag (Known true) = 1
same_flag (Known false) = 0
same_flag (Refused which fault) = 0
same_flag BadSettings = 0

-- the number of the file with the fault, where there is one
abbrev pub which_number : Compared → ℕ
which_number (Known same) = 0
which_number (Refused First fault) = 1
which_number (Refused Second fault) = 2
which_number BadSettings = 0

-- the line of that fault
abbrev pub same_line_of : Compared → ℕ
same_line_of (Known same) = 0
same_line_of (Refused which fault) = line_of_fault fault
same_line_of BadSettings = 0

-- both files are within the limit
abbrev pub AreWithin : Bytes → Bytes → Type 0
AreWithin first second = (length first ≤ greatest_limit) × (length second ≤ greatest_limit)

-- why the files are not compared: one is too long, the first if both are; or one has a fault, or memory was wanting for it
abbrev pub TellsOfTwo : Profile → Bytes → Bytes → Which → Fault → Type 0
TellsOfTwo profile first second First TooLong = greatest_limit < length first
TellsOfTwo profile first second Second TooLong = (length first ≤ greatest_limit) × (greatest_limit < length second)
TellsOfTwo profile first second which fault = AreWithin first second × IsSameRefusal profile first second which fault

-- What one end of a comparison means, for the number of its settings and the bytes of both files.
abbrev pub ComparisonMeans : ℕ → Bytes → Bytes → Compared → Type 0
ComparisonMeans settings first second (Known same) = AreWithin first second
    × ((profile : Profile) × (edition : Edition) × (settings ≡ settings_number profile edition) × AreCompared profile edition first second same)
ComparisonMeans settings first second (Refused which fault) =
    (profile : Profile) × (edition : Edition) × (settings ≡ settings_number profile edition) × TellsOfTwo profile first second which fault
ComparisonMeans settings first second BadSettings = last_settings < settings

-- A call on two files: it ended so, and the status and the three numbers are what tells it.
pub record IsComparison (settings : ℕ) (first second : Bytes) (status same which line : ℕ) : Type 0 where
  pub compared : Compared
  pub means : ComparisonMeans settings first second compared
  pub status_tells : status ≡ same_status compared
  pub same_tells : same ≡ same_flag compared
  pub which_tells : which ≡ which_number compared
  pub line_tells : line ≡ same_line_of compared
