use Rattle.std.proofs.Common.{ℕ, ◌-◌, ◌≤◌}
use Rattle.std.specs.Prelude.{◌↔◌}
use Rattle.ged_tree.specs.Runs.{trees_between, IsRunOfTrees}
use Rattle.ged_schema.specs.Unlisted.{UnlistedFrom}
use Rattle.ged_schema.proofs.notices.+first_between.Given as goal

abbrev pub decreases-first_between : goal.decreases-first_between
decreases-first_between g l = l.end - l.start

abbrev pub invariant-loop-after : goal.invariant-loop-after
invariant-loop-after g l =
    let trees = g.F.Forest.trees l.forest in
    record {
      run : IsRunOfTrees trees l.place l.end;
      ahead : l.start ≤ l.place;
      same : (p : ℕ) → UnlistedFrom l.context l.start (trees_between trees l.start l.end) p ↔ UnlistedFrom l.context l.place (trees_between trees l.place l.end) p;
    }

abbrev pub decreases-loop-after : goal.decreases-loop-after
decreases-loop-after g l = l.end - l.place
