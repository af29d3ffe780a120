use Rattle.ged_tree.proofs.laws.LinesAtPlaces.{begins_on_line}
use Rattle.ged_tree.proofs.laws.places.begins_on_line.Goals as goal

pub returns : goal.returns
returns c = begins_on_line
