use Rattle.std.proofs.Common.{◌≡◌, drop, ◌+◌}
use Rattle.ged_tree.specs.Trees.{trees_of}
use Rattle.ged_tree.specs.Trees.{lines_count}
use Rattle.ged_document.proofs.walks.+count_lines.Given as goal

abbrev pub decreases-count_lines : goal.decreases-count_lines
decreases-count_lines l = goal.size-count_lines l

abbrev pub invariant-loop-node : goal.invariant-loop-node
invariant-loop-node l = l.total + lines_count (trees_of (drop l.node-index l.nodes)) ≡ lines_count (trees_of l.nodes)
