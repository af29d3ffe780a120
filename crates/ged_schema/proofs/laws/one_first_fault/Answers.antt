use Rattle.ged_schema.proofs.NoticeLaws.{one_first_fault_as}
use Rattle.ged_schema.proofs.laws.one_first_fault.Goals as goal

pub returns : goal.returns
returns c = one_first_fault_as
