use Rattle.std.proofs.Common.{◌≡◌, ◌-◌, ◌↔◌, ◌∷◌}
use Rattle.ged_tree.specs.Runs.{trees_between, IsRunOfTrees}
use Rattle.ged_canon.specs.Normal.{InOrder}
use Rattle.ged_canon.specs.inner.Orders.{TagsInOrder, tags}
use Rattle.ged_canon.specs.inner.Ranks.{tag_rank}
use denote.Shadow.{shadow}
use denote.Text.{Utf8}
use Rattle.ged_canon.proofs.writer.order.are_in_order.Given as goal

-- the structures left, behind the one before them, are in order exactly where all are
abbrev pub invariant-loop-after : goal.invariant-loop-after
invariant-loop-after g l =
    let trees = g.F.Forest.trees l.forest in
    record {
      run : IsRunOfTrees trees l.place l.end;
      utf8 : shadow (Utf8 l.before);
      rank : l.rank ≡ tag_rank l.before;
      same : TagsInOrder (l.before ∷ tags (trees_between trees l.place l.end)) ↔ InOrder (trees_between trees l.start l.end);
    }

abbrev pub decreases-loop-after : goal.decreases-loop-after
decreases-loop-after g l = l.end - l.place
