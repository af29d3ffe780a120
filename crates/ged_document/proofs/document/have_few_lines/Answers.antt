use Rattle.std.proofs.Common.{◌∙◌, ◌+◌}
use Rattle.ged_tree.specs.Trees.{lines_count}
use Rattle.ged_document.specs.Records.{document_trees}
use Rattle.ged_tree.proofs.CallerLemmas.{counted}
use Rattle.ged_document.proofs.Steps.{told_few}
use Rattle.ged_document.proofs.document.have_few_lines.Goals as goal

pub returns : goal.returns
returns c =
    let trees = document_trees c.args.head.now c.args.records.now in
    rw (counted trees) (c.is_some.ensures ∙ told_few c.lines_of_parts.result (lines_count trees + 1) c.lines_of_parts.ensures)
