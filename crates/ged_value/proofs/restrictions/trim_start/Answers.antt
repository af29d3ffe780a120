use Rattle.ged_value.proofs.RestrictionLaws.{start_matches}
use Rattle.ged_value.proofs.restrictions.trim_start.Goals as goal

pub returns : goal.returns
returns c = start_matches c.args.text.now c.trim_start_matches.result.now c.trim_start_matches.ensures.matches
