use Rattle.ged_tree.proofs.theory.OneDocument.{law}
use Rattle.ged_tree.proofs.laws.documents.pass_is_document.Goals as goal

pub returns : goal.returns
returns c = law
