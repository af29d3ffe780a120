use Rattle.ged_tree.proofs.laws.Entries.{one_list}
use Rattle.ged_tree.proofs.laws.places.one_document.Goals as goal

pub returns : goal.returns
returns c = one_list 0
