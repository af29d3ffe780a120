use Rattle.ged_link.proofs.OneWayLemmas.{has_place}
use Rattle.ged_link.proofs.laws.one_way_has_place.Goals as goal

pub returns : goal.returns
returns c = has_place
