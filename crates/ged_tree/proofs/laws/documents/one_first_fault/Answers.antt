use Rattle.ged_tree.proofs.theory.FirstFaults.{one_fault}
use Rattle.ged_tree.proofs.laws.documents.one_first_fault.Goals as goal

pub returns : goal.returns
returns c = one_fault
