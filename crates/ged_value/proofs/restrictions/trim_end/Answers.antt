use Rattle.ged_value.proofs.RestrictionLaws.{end_matches}
use Rattle.ged_value.proofs.restrictions.trim_end.Goals as goal

pub returns : goal.returns
returns c = end_matches c.args.text.now c.trim_end_matches.result.now c.trim_end_matches.ensures.matches
