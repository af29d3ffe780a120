use Rattle.std.proofs.Common.{◌≡◌, drop, ◌+◌}
use Rattle.ged_tree.specs.Trees.{trees_of, trees_count}
use Rattle.ged_document.proofs.walks.+count.Given as goal

abbrev pub decreases-count : goal.decreases-count
decreases-count l = goal.size-count l

abbrev pub invariant-loop-node : goal.invariant-loop-node
invariant-loop-node l = l.total + trees_count (trees_of (drop l.node-index l.nodes)) ≡ trees_count (trees_of l.nodes)
