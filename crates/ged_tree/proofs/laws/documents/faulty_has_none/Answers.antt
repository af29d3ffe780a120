use Rattle.ged_tree.proofs.theory.FirstFaults.{none_of_faulty}
use Rattle.ged_tree.proofs.laws.documents.faulty_has_none.Goals as goal

pub returns : goal.returns
returns c = none_of_faulty
