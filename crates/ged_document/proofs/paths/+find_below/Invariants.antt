use Rattle.std.proofs.Common.{◌≡◌, ◌<◌, drop, ◌+◌, ◌^◌}
use Rattle.ged_tree.specs.Trees.{trees_of, lines_count}
use Rattle.ged_document.specs.inner.PathLines.{path_line, line_below}
use Rattle.ged_document.proofs.paths.+find_below.Given as goal

abbrev pub decreases-find_below : goal.decreases-find_below
decreases-find_below l = goal.size-find_below l

-- the path is followed in the children that are left
abbrev pub invariant-loop-child : goal.invariant-loop-child
invariant-loop-child l =
    let left = trees_of (drop l.child-index l.child-items) in
    record {
      small : l.line + lines_count left < 2 ^ 63;
      told : line_below l.first l.node.payload l.node.children l.path ≡ path_line l.line left l.left l.rest;
    }
