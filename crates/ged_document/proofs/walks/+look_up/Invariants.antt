use Rattle.std.proofs.Common.{◌≡◌, ◌<◌, drop, ◌^◌, true}
use Rattle.ged_tree.specs.Trees.{trees_of, trees_count}
use Rattle.ged_tree.specs.Places.{trees_from, level_at}
use Rattle.ged_tree.specs.inner.Walks.{are_levels}
use Rattle.ged_document.proofs.walks.+look_up.Given as goal

abbrev pub decreases-look_up : goal.decreases-look_up
decreases-look_up l = goal.size-look_up l

-- the place is looked for in the trees that are left
abbrev pub invariant-loop-node : goal.invariant-loop-node
invariant-loop-node l =
    let left = trees_of (drop l.node-index l.nodes) in
    record {
      within : l.place < trees_count left;
      few : trees_count left < 2 ^ 63;
      levels : are_levels l.level left ≡ true;
      found : trees_from (trees_of l.nodes) l.start ≡ trees_from left l.place;
      level : level_at l.level (trees_of l.nodes) l.start ≡ level_at l.level left l.place;
    }
