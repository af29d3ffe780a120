use Rattle.std.proofs.Common.{◌-◌, ◌≡◌, ◌++◌}
use Rattle.ged_tree.specs.Runs.{trees_between, IsRunOfTrees}
use Rattle.ged_link.specs.Indexes.{place_in}
use Rattle.ged_link.specs.inner.LinkWalks.{one_way_places}
use Rattle.ged_link.proofs.links.search_one_way.Given as goal

abbrev pub invariant-loop-after : goal.invariant-loop-after
invariant-loop-after g l =
    let trees = g.F.Forest.trees l.forest in
    record {
      run : IsRunOfTrees trees l.place l.end;
      told : l.places.items ++ one_way_places (place_in l.records.names.now) trees l.place (trees_between trees l.place l.end) ≡ one_way_places (place_in l.records.names.now) trees 0 trees;
    }

abbrev pub decreases-loop-after : goal.decreases-loop-after
decreases-loop-after g l = l.end - l.place
