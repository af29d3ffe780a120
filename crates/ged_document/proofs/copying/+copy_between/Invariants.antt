use Rattle.std.proofs.Common.{◌-◌, ◌≡◌, ◌≤◌}
use Rattle.ged_tree.specs.Trees.{trees_of}
use Rattle.ged_tree.specs.Runs.{trees_between, IsRunOfTrees}
use Rattle.ged_tree.proofs.CallerLemmas.{beside}
use Rattle.ged_document.specs.inner.Copies.{StandBelow}
use Rattle.ged_document.proofs.copying.+copy_between.Given as goal

abbrev pub decreases-copy_between : goal.decreases-copy_between
decreases-copy_between g l = l.end - l.start

abbrev pub invariant-loop-after : goal.invariant-loop-after
invariant-loop-after g l =
    let trees = g.F.Forest.trees l.forest in
    record {
      run : IsRunOfTrees trees l.place l.end;
      ahead : l.start ≤ l.place;
      below : StandBelow (trees_between trees l.place l.end);
      told : beside (trees_of l.nodes.items) (trees_between trees l.place l.end) ≡ trees_between trees l.start l.end;
    }

abbrev pub decreases-loop-after : goal.decreases-loop-after
decreases-loop-after g l = l.end - l.place
