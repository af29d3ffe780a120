use Rattle.std.proofs.Common.{◌∙◌, sym, ap}
use Rattle.std.proofs.lemmas.Bool.{true≢false}
use Rattle.ged_tree.specs.Documents.{is_document}
use Rattle.ged_document.proofs.Copies.{document_copied}
use Rattle.ged_document.proofs.copying.document_of.Goals as goal

pub unreachable-requires-in-None : goal.unreachable-requires-in-None
unreachable-requires-in-None g c =
    let w = g.F.Forest.trees c.args.forest.now in
    let whole = document_copied w c.end_of_all-end.result c.in-Some.after c.in_ok-head.head c.in_ok-records.records.items c.end_of_all-end.ensures.document c.in-Some.ensures c.end_of_all-end.ensures.all
    c.in_ok-head.ensures.tag c.in_ok-head.ensures.payload c.in_ok-head.ensures.children c.in_ok-records.ensures in
    true≢false (sym (ap is_document whole ∙ c.end_of_all-end.ensures.document) ∙ c.in-None.ensures)
