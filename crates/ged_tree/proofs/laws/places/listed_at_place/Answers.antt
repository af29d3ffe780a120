use Rattle.ged_tree.proofs.laws.Entries.{entry_at_place}
use Rattle.ged_tree.proofs.laws.places.listed_at_place.Goals as goal

pub returns : goal.returns
returns c = entry_at_place
