use Rattle.std.proofs.Common.{[], ◌∷◌, refl}
use Rattle.ged_canon.specs.inner.Working.{is_named}
use Rattle.ged_canon.proofs.writer.AlikeRecords.{same_lines}
use Rattle.ged_canon.proofs.writer.alike.are_same_records.Goals as goal

pub returns-then-branch-clause-same : goal.returns-then-branch-clause-same
returns-then-branch-clause-same g c = λ names other_names numbering named other_numbering other_named.
    let d = g.F.Forest.trees c.args.first.now.forest.now in
    let e = g.G.Forest.trees c.args.second.now.forest.now in (
      (λ same. same_lines (is_named d) (is_named e) c.args.first.now.plan.edition c.args.second.now.plan.edition names other_names d e (c.args.sibling ∷ []) (c.args.other ∷ [])
          (c.in_ok-are_records_alike.ensures names other_names numbering named other_numbering other_named c.if-branch.true)),
      (λ equal. refl),
    )
