use Rattle.std.proofs.Common.{◌≡◌, drop}
use Rattle.ged_tree.specs.Trees.{trees_of}
use Rattle.ged_tree.specs.Documents.{are_at}
use Rattle.ged_document.proofs.node.+may_stand_below.Given as goal

abbrev pub decreases-may_stand_below : goal.decreases-may_stand_below
decreases-may_stand_below l = goal.size-may_stand_below l

-- the trees so far may stand there
abbrev pub invariant-loop-node : goal.invariant-loop-node
invariant-loop-node l = are_at l.level (trees_of l.nodes) ≡ are_at l.level (trees_of (drop l.node-index l.nodes))
