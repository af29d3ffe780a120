use Rattle.ged_tree.proofs.laws.Entries.{length-entries_of}
use Rattle.ged_tree.proofs.laws.places.one_for_each_place.Goals as goal

pub returns : goal.returns
returns c = length-entries_of
