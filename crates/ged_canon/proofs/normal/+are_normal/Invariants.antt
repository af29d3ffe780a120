use Rattle.std.proofs.Common.{◌-◌, ◌≤◌, ◌↔◌}
use Rattle.ged_tree.specs.Runs.{trees_between, IsRunOfTrees}
use Rattle.ged_canon.specs.Normal.{AreNormal}
use Rattle.ged_canon.proofs.normal.+are_normal.Given as goal

abbrev pub decreases-are_normal : goal.decreases-are_normal
decreases-are_normal g l = l.end - l.start

-- the structures left are normal exactly where all are
abbrev pub invariant-loop-after : goal.invariant-loop-after
invariant-loop-after g l =
    let trees = g.F.Forest.trees l.forest in
    record {
      run : IsRunOfTrees trees l.place l.end;
      ahead : l.start ≤ l.place;
      same : AreNormal l.edition l.context (trees_between trees l.place l.end) ↔ AreNormal l.edition l.context (trees_between trees l.start l.end);
    }

abbrev pub decreases-loop-after : goal.decreases-loop-after
decreases-loop-after g l = l.end - l.place
