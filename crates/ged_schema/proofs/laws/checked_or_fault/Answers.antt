use Rattle.ged_schema.proofs.ProfileOrFaulty.{checked_or_fault}
use Rattle.ged_schema.proofs.laws.checked_or_fault.Goals as goal

pub returns : goal.returns
returns c = checked_or_fault
