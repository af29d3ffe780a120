use Rattle.ged_schema.proofs.NoticeLaws.{no_fault_as}
use Rattle.ged_schema.proofs.laws.no_fault_of_checked.Goals as goal

pub returns : goal.returns
returns c = no_fault_as
