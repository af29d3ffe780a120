use Rattle.std.proofs.Common.{◌-◌, ◌≤◌}
use Rattle.ged_tree.specs.Runs.{trees_between, IsRunOfTrees}
use Rattle.ged_schema.specs.Tables.{rows}
use Rattle.ged_schema.specs.Checked.{AreChecked}
use Rattle.ged_schema.proofs.Marking.{AreMarked}
use Rattle.ged_schema.proofs.Noting.{IsNoted}
use Rattle.ged_schema.proofs.quick_check.+all_pass.Given as goal

abbrev pub decreases-all_pass : goal.decreases-all_pass
decreases-all_pass g l = l.end - l.start

abbrev pub invariant-loop-after : goal.invariant-loop-after
invariant-loop-after g l =
    let trees = g.F.Forest.trees l.forest in
    record {
      run : IsRunOfTrees trees l.place l.end;
      ahead : l.start ≤ l.place;
      marked : AreMarked (rows l.context) l.marks (trees_between trees l.place l.end) (trees_between trees l.start l.end);
      checked : AreChecked trees l.context (trees_between trees l.place l.end) → AreChecked trees l.context (trees_between trees l.start l.end);
      noted : IsNoted l.context l.pass.noted (trees_between trees l.place l.end) l.fn.pass.noted (trees_between trees l.start l.end);
    }

abbrev pub decreases-loop-after : goal.decreases-loop-after
decreases-loop-after g l = l.end - l.place
