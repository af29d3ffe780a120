use Rattle.ged_tree.proofs.theory.OneDocument.{one_document}
use Rattle.ged_tree.proofs.laws.documents.none_shared.Goals as goal

pub returns : goal.returns
returns c = one_document
