use Rattle.std.proofs.Common.{◌∙◌}
use Rattle.std.proofs.lemmas.Result.{IfOk-weaker}
use Rattle.ged_document.proofs.canon.known_document.Goals as goal

pub returns : goal.returns
returns c = λ d has. IfOk-weaker c.document_of.result _ _ (λ m is. is ∙ c.in_ok-table.ensures d has) c.document_of.ensures
