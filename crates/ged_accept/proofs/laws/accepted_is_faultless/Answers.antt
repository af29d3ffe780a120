use Rattle.ged_accept.proofs.FileLaws.{accepted_faultless}
use Rattle.ged_accept.proofs.laws.accepted_is_faultless.Goals as goal

pub returns : goal.returns
returns c = accepted_faultless
