-- What a run says of its devices, whatever bytes they give and take.
use Rattle.std.specs.Prelude.{◌≡◌, ◌↔◌, ◌+◌, ◌≤◌, ℕ, Bool, IsTrue, None, Some}
use Rattle.ged_faults.specs.declared.faults.Which.TheVariants.{First, Second}
use Rattle.ged_faults.specs.declared.faults.Fault.TheVariants.{ReadFailed, WriteFailed}
use Rattle.ged_faults.specs.declared.faults.Outcome.{Outcome}
use Rattle.ged_faults.specs.declared.faults.Outcome.TheVariants.{Failed}

-- read is called at most once more than the limit has bytes, and a device has failed exactly where the outcome says so
pub record TellsDevices (limit reads : ℕ) (read_failed write_failed : Bool) (outcome : Outcome) : Type 0 where
  pub calls : reads ≤ limit + 1
  pub reader : IsTrue read_failed ↔ (outcome ≡ Failed None ReadFailed)
  pub writer : IsTrue write_failed ↔ (outcome ≡ Failed None WriteFailed)

-- the same of a run over two files
pub record TellsThreeDevices (limit first_reads second_reads : ℕ) (first_failed second_failed write_failed : Bool) (outcome : Outcome) : Type 0 where
  pub first_calls : first_reads ≤ limit + 1
  pub second_calls : second_reads ≤ limit + 1
  pub first : IsTrue first_failed ↔ (outcome ≡ Failed (Some First) ReadFailed)
  pub second : IsTrue second_failed ↔ (outcome ≡ Failed (Some Second) ReadFailed)
  pub writer : IsTrue write_failed ↔ (outcome ≡ Failed None WriteFailed)
