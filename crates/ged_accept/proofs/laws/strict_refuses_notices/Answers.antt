use Rattle.ged_accept.proofs.laws.Strict.{strict_refuses}
use Rattle.ged_accept.proofs.laws.strict_refuses_notices.Goals as goal

pub returns : goal.returns
returns c = strict_refuses
