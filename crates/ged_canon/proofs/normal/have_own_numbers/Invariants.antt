use Rattle.std.proofs.Common.{◌-◌, ◌+◌, ◌≤◌, ◌↔◌}
use Rattle.ged_tree.specs.Runs.{trees_between, IsRunOfTrees}
use Rattle.ged_canon.specs.inner.Working.{HaveOwnNumbers}
use Rattle.ged_canon.proofs.normal.have_own_numbers.Given as goal

-- the records left have their own numbers exactly where all have
abbrev pub invariant-loop-after : goal.invariant-loop-after
invariant-loop-after g l =
    let trees = g.F.Forest.trees l.forest in
    record {
      run : IsRunOfTrees trees l.place l.end;
      counted : l.named ≤ l.number;
      ahead : l.number ≤ l.place;
      same : HaveOwnNumbers trees (l.named + 1) l.number (trees_between trees l.place l.end) ↔ HaveOwnNumbers trees 1 0 (trees_between trees l.start l.end);
    }

abbrev pub decreases-loop-after : goal.decreases-loop-after
decreases-loop-after g l = l.end - l.place
