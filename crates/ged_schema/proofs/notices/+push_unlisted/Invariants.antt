use Rattle.std.proofs.Common.{ℕ, List, ◌-◌, ◌≤◌, ◌≡◌, ◌++◌, map}
use Rattle.ged_tree.specs.Runs.{trees_between, IsRunOfTrees}
use Rattle.ged_schema.specs.Unlisted.{unlisted_notice}
use Rattle.ged_schema.specs.inner.Listings.{ListsUnlisted}
use Rattle.ged_schema.proofs.notices.+push_unlisted.Given as goal

abbrev pub decreases-push_unlisted : goal.decreases-push_unlisted
decreases-push_unlisted g l = l.end - l.start

abbrev pub invariant-loop-after : goal.invariant-loop-after
invariant-loop-after g l =
    let trees = g.F.Forest.trees l.forest in
    record {
      run : IsRunOfTrees trees l.place l.end;
      ahead : l.start ≤ l.place;
      told : (left : List ℕ) → ListsUnlisted l.context l.place (trees_between trees l.place l.end) left →
          (places : List ℕ) × ListsUnlisted l.context l.start (trees_between trees l.start l.end) places
          × (l.notices.items ++ map (unlisted_notice trees) left ≡ l.fn.notices.items ++ map (unlisted_notice trees) places);
    }

abbrev pub decreases-loop-after : goal.decreases-loop-after
decreases-loop-after g l = l.end - l.place
