use Rattle.std.proofs.Common.{◌≡◌, ◌≤◌, drop, ◌+◌}
use Rattle.ged_tree.specs.Trees.{trees_of}
use Rattle.ged_tree.specs.Trees.{lines_count}
use Rattle.ged_document.proofs.node.+lines_within.Given as goal

abbrev pub decreases-lines_within : goal.decreases-lines_within
decreases-lines_within l = goal.size-lines_within l

-- the room left and the room used are the room given
abbrev pub invariant-loop-node : goal.invariant-loop-node
invariant-loop-node l = (l.left ≤ l.room) × (l.left + lines_count (trees_of l.nodes) ≡ l.room + lines_count (trees_of (drop l.node-index l.nodes)))
