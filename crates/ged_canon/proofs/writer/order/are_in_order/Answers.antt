use Rattle.std.proofs.Common.{◌+◌, ◌∷◌, refl, sym, ap, ◌∙◌, subst, arith}
use Rattle.ged_tree.specs.Trees.{tree}
use Rattle.ged_tree.specs.Places.{structure_at}
use Rattle.ged_tree.specs.Runs.{trees_between}
use Rattle.ged_tree.proofs.CallerLemmas.{run_ends}
use Rattle.ged_canon.specs.inner.Orders.{TagsInOrder, tags}
use Rattle.ged_canon.specs.Normal.{InOrder}
use Rattle.ged_canon.proofs.theory.Orders.{tags_of_order, order_of_tags}
use Rattle.ged_canon.proofs.writer.order.are_in_order.Goals as goal

-- one structure by itself is in order
pub returns-then-place-end : goal.returns-then-place-end
returns-then-place-end g c =
    let d = g.F.Forest.trees c.args.forest.now in
    let start = c.args.start in
    let place = c.in-Some.place in
    let alone = c.in-Some.ensures.first ∙ ap (tree (structure_at d start) (trees_between d (start + 1) place)) (run_ends d place c.args.end (omega arith)) in
    ((λ _. subst (λ t. InOrder t) (sym alone) tt), (λ _. refl))

-- the first structure stands before all others
pub loop-after-init : goal.loop-after-init
loop-after-init g c =
    let d = g.F.Forest.trees c.args.forest.now in
    let start = c.args.start in
    let place = c.in-Some.place in
    let first = c.in-Some.ensures.first in
    let rest = trees_between d place c.args.end in
    let whole = tree (structure_at d start) (trees_between d (start + 1) place) rest in
    record {
      run = c.in-Some.ensures.rest;
      utf8 = c.tag-before.utf8;
      rank = c.rank_of-rank.ensures.rank;
      same = (
        λ o. subst (λ t. InOrder t) (sym first) (order_of_tags whole (subst (λ t. TagsInOrder (t ∷ tags rest)) c.tag-before.ensures o)),
        λ o. subst (λ t. TagsInOrder (t ∷ tags rest)) (sym c.tag-before.ensures) (tags_of_order whole (subst (λ t. InOrder t) first o)),
      );
    }
