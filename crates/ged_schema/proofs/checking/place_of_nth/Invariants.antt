use Rattle.std.proofs.Common.{ℕ, ◌-◌, ◌≤◌}
use Rattle.ged_tree.specs.Runs.{trees_between, IsRunOfTrees}
use Rattle.ged_schema.specs.Checked.{count_of}
use Rattle.ged_schema.specs.Faults.{StandsAfter}
use Rattle.ged_schema.proofs.checking.place_of_nth.Given as goal

abbrev pub invariant-loop-after : goal.invariant-loop-after
invariant-loop-after g l =
    let trees = g.F.Forest.trees l.forest in
    record {
      run : IsRunOfTrees trees l.place l.end;
      few : count_of l.tag (trees_between trees l.place l.end) ≤ l.left → count_of l.tag (trees_between trees l.start l.end) ≤ l.before;
      stands : (at : ℕ) → StandsAfter l.tag l.left l.place (trees_between trees l.place l.end) at → StandsAfter l.tag l.before l.start (trees_between trees l.start l.end) at;
    }

abbrev pub decreases-loop-after : goal.decreases-loop-after
decreases-loop-after g l = l.end - l.place
