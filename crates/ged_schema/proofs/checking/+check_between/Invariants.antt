use Rattle.std.proofs.Common.{◌-◌, ◌≤◌}
use Rattle.ged_tree.specs.Runs.{trees_between, IsRunOfTrees}
use Rattle.ged_schema.specs.declared.fault.FaultPlace.{FaultPlace}
use Rattle.ged_schema.specs.Checked.{AreChecked}
use Rattle.ged_schema.specs.Faults.{FirstFault}
use Rattle.ged_schema.proofs.checking.+check_between.Given as goal

abbrev pub decreases-check_between : goal.decreases-check_between
decreases-check_between g l = l.end - l.start

abbrev pub invariant-loop-after : goal.invariant-loop-after
invariant-loop-after g l =
    let trees = g.F.Forest.trees l.forest in
    record {
      run : IsRunOfTrees trees l.place l.end;
      ahead : l.start ≤ l.place;
      checked : AreChecked trees l.context (trees_between trees l.place l.end) → AreChecked trees l.context (trees_between trees l.start l.end);
      fault : (f : FaultPlace) → FirstFault trees l.context l.place (trees_between trees l.place l.end) f → FirstFault trees l.context l.start (trees_between trees l.start l.end) f;
    }

abbrev pub decreases-loop-after : goal.decreases-loop-after
decreases-loop-after g l = l.end - l.place
