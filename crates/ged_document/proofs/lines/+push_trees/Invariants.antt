use Rattle.std.proofs.Common.{◌≡◌, ◌++◌, drop}
use Rattle.ged_tree.specs.Trees.{trees_of}
use Rattle.ged_tree.specs.inner.Walks.{HaveLinesAt}
use Rattle.ged_tree.specs.DocumentLines.{lines_of}
use Rattle.ged_document.proofs.lines.+push_trees.Given as goal

abbrev pub decreases-push_trees : goal.decreases-push_trees
decreases-push_trees l = goal.size-push_trees l

abbrev pub invariant-loop-node : goal.invariant-loop-node
invariant-loop-node l =
    let left = trees_of (drop l.node-index l.nodes) in
    record {
      told : l.lines.items ++ lines_of l.level left ≡ l.fn.lines.items ++ lines_of l.level (trees_of l.nodes);
      stand : HaveLinesAt l.level left;
    }
