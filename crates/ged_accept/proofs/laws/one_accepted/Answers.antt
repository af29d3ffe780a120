use Rattle.ged_accept.proofs.FileLaws.{one_accepted}
use Rattle.ged_accept.proofs.laws.one_accepted.Goals as goal

pub returns : goal.returns
returns c = one_accepted
