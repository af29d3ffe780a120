use Rattle.std.proofs.Common.{◌≡◌, take}
use Rattle.ged_document.proofs.node.Node.+copy.Given as goal

abbrev pub decreases-copy : goal.decreases-copy
decreases-copy l = goal.size-copy l

abbrev pub invariant-loop-child : goal.invariant-loop-child
invariant-loop-child l = l.children.items ≡ take l.child-index l.child-items
