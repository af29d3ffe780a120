use Rattle.ged_tree.proofs.theory.FirstFaults.{either}
use Rattle.ged_tree.proofs.laws.documents.document_or_fault.Goals as goal

pub returns : goal.returns
returns c = either
