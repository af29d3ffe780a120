use Rattle.std.proofs.Common.{◌-◌, ◌≡◌, length}
use Rattle.ged_tree.specs.Runs.{trees_between, IsRunOfTrees}
use Rattle.ged_schema.specs.Tables.{rows}
use Rattle.ged_schema.proofs.Runs.{Counted}
use Rattle.ged_schema.proofs.checking.count_rows.Given as goal

abbrev pub invariant-loop-after : goal.invariant-loop-after
invariant-loop-after g l =
    let trees = g.F.Forest.trees l.forest in
    record {
      run : IsRunOfTrees trees l.place l.end;
      whole : IsRunOfTrees trees l.start l.end;
      long : length l.counts ≡ 64;
      counted : Counted (rows l.context) l.counts (trees_between trees l.place l.end) (trees_between trees l.start l.end);
    }

abbrev pub decreases-loop-after : goal.decreases-loop-after
decreases-loop-after g l = l.end - l.place
