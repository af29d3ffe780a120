use Rattle.ged_link.proofs.Deciding.{resolved_or_fault}
use Rattle.ged_link.proofs.laws.resolved_or_fault.Goals as goal

pub returns : goal.returns
returns c = resolved_or_fault
