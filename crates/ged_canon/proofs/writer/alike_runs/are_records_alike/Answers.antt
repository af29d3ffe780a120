use Rattle.std.proofs.Common.{[], ◌∷◌, sym, ap, ◌∙◌}
use Rattle.ged_canon.specs.inner.Working.{is_named, number_of}
use Rattle.ged_canon.specs.inner.CanonBytes.{numbered_siblings}
use Rattle.ged_canon.proofs.writer.AlikeTrees.{if_ok_weaker, stands_alone, below_as, same_record}
use Rattle.ged_canon.proofs.writer.alike_runs.are_records_alike.Goals as goal

pub are_trees_alike-requires-clause-tree : goal.are_trees_alike-requires-clause-tree
are_trees_alike-requires-clause-tree g c =
    stands_alone (g.F.Forest.trees c.args.first.now.forest.now) c.args.sibling.place c.after.result c.requires.first.document c.requires.first.within.0.within c.after.ensures

pub are_trees_alike-requires-clause-other : goal.are_trees_alike-requires-clause-other
are_trees_alike-requires-clause-other g c =
    stands_alone (g.G.Forest.trees c.args.second.now.forest.now) c.args.other.place c.after-2.result c.requires.second.document c.requires.second.within.0.within c.after-2.ensures

pub returns : goal.returns
returns g c = λ names others h named k others_named.
    let d = g.F.Forest.trees c.args.first.now.forest.now in
    let e = g.G.Forest.trees c.args.second.now.forest.now in
    let x = c.args.sibling in
    let y = c.args.other in
    let new = number_of 1 names in
    let other = number_of 1 others in
    let edition = c.args.first.now.plan.edition in
    if_ok_weaker c.are_trees_alike.result
    (λ b alike same.
    same_record d e names others named others_named edition x y c.own_number-number.result
    (c.own_number-number.ensures names h) (sym c.if-own_number-number.false ∙ c.own_number.ensures others k)
    (alike same).own
    (below_as new other d e x.place c.after.result y.place c.after-2.result c.requires.first.within.0.within c.requires.second.within.0.within c.after.ensures c.after-2.ensures (alike same).below)
    ∙ ap (λ z. numbered_siblings (is_named e) z others e (y ∷ [])) c.requires.edition)
    (c.are_trees_alike.ensures.same names others h k)
