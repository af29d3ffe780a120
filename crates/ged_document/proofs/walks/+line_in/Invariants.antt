use Rattle.std.proofs.Common.{◌≡◌, ◌<◌, drop, ◌+◌, ◌^◌}
use Rattle.ged_tree.specs.Trees.{trees_of, trees_count}
use Rattle.ged_tree.specs.Places.{line_at}
use Rattle.ged_tree.specs.Trees.{lines_count}
use Rattle.ged_document.proofs.walks.+line_in.Given as goal

abbrev pub decreases-line_in : goal.decreases-line_in
decreases-line_in l = goal.size-line_in l

-- the place is looked for in the trees that are left
abbrev pub invariant-loop-node : goal.invariant-loop-node
invariant-loop-node l =
    let left = trees_of (drop l.node-index l.nodes) in
    record {
      within : l.place < trees_count left;
      few : trees_count left < 2 ^ 63;
      small : l.line + lines_count left < 2 ^ 63;
      told : line_at l.first (trees_of l.nodes) l.start ≡ line_at l.line left l.place;
    }
