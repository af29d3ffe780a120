use Rattle.ged_accept.proofs.laws.OneList.{one_verdict}
use Rattle.ged_accept.proofs.laws.one_verdict.Goals as goal

pub returns : goal.returns
returns c = one_verdict
