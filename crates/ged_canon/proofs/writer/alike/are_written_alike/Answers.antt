use Rattle.std.proofs.Common.{[], ◌∷◌, sym, ◌∙◌}
use Rattle.ged_canon.specs.inner.Working.{is_named}
use Rattle.ged_canon.proofs.writer.AlikeRecords.{same_lines}
use Rattle.ged_canon.proofs.writer.AlikeTrees.{if_ok_weaker}
use Rattle.ged_canon.proofs.writer.alike.are_written_alike.Goals as goal

pub returns-clause-same : goal.returns-clause-same
returns-clause-same g c =
    if_ok_weaker c.drop_same.result
    (λ b told names other_names numbering named other_numbering other_named.
    let d = g.F.Forest.trees c.args.first.now.forest.now in
    let e = g.G.Forest.trees c.args.second.now.forest.now in
    let first = c.in_ok-write_alone.ensures.lines names numbering named in
    let second = c.in_ok-write_alone-2.ensures.lines other_names other_numbering other_named in (
      (λ same. sym first ∙ told.0 same ∙ second),
      (λ equal. told.1 (first ∙ same_lines (is_named d) (is_named e) c.args.first.now.plan.edition c.args.second.now.plan.edition names other_names d e (c.args.sibling ∷ []) (c.args.other ∷ []) equal ∙ sym second)),
    ))
    c.drop_same.ensures.same
