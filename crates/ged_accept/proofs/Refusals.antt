-- Refusals that say more than is asked.
use Rattle.std.proofs.Common.{ℕ}
use Rattle.ged_faults.specs.declared.faults.FileFault.{FileFault}
use Rattle.ged_faults.specs.declared.faults.Fault.{Fault}
use Rattle.ged_faults.specs.declared.faults.Fault.TheVariants.{InFile, TooLong, ReadFailed, WriteFailed, Memory}
use Rattle.ged_accept.specs.Accepted.{IsRefusal}

-- a fault that stands in one way also stands in another
pub refused_too : (Stands Others : ℕ → FileFault → Type 0) (fault : Fault) → ((line : ℕ) (kind : FileFault) → Stands line kind → Others line kind)
    → IsRefusal Stands fault → IsRefusal Others fault
refused_too Stands Others (InFile line kind) more told = more line kind told
refused_too Stands Others (Memory error) more told = tt
refused_too Stands Others TooLong more told = told
refused_too Stands Others ReadFailed more told = told
refused_too Stands Others WriteFailed more told = told
