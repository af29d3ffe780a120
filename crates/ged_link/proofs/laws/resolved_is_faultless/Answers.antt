use Rattle.ged_link.proofs.LawLemmas.{faultless}
use Rattle.ged_link.proofs.laws.resolved_is_faultless.Goals as goal

pub returns : goal.returns
returns c = faultless
