use Rattle.std.proofs.Common.{◌-◌, ◌+◌, ◌≡◌, ◌++◌}
use Rattle.ged_tree.specs.Places.{structure_at}
use Rattle.ged_tree.specs.Runs.{trees_between, IsRunOfTrees}
use Rattle.ged_link.specs.Indexes.{place_in}
use Rattle.ged_link.specs.inner.LinkWalks.{one_way_below}
use Rattle.ged_link.proofs.links.push_one_way.Given as goal

abbrev pub invariant-loop-after : goal.invariant-loop-after
invariant-loop-after g l =
    let trees = g.F.Forest.trees l.forest in
    let below = one_way_below (place_in l.records.names.now) trees (structure_at trees l.from).tag l.from in
    record {
      run : IsRunOfTrees trees l.place l.end;
      told : l.places.items ++ below l.place (trees_between trees l.place l.end) ≡ l.fn.places.items ++ below (l.from + 1) (trees_between trees (l.from + 1) l.end);
    }

abbrev pub decreases-loop-after : goal.decreases-loop-after
decreases-loop-after g l = l.end - l.place
