-- Nothing here need be believed: only private contracts and proofs cite it.
-- The size of nodes, by which a walk over them ends. No contract speaks of it.
use Rattle.std.specs.Prelude.{◌+◌, ◌≤◌, List, [], ◌∷◌}
use Rattle.std.proofs.Common.{arith}
use Rattle.ged_tree.specs.Trees.{Tree, trees_of, trees_count}
use Rattle.ged_document.specs.inner.Trees.{structure_count}
use denote.Param.Weighed.{most}

-- no tree is larger than all of them together
pub most_of_trees : (ts : List Tree) → most (λ k. structure_count k + 1) ts ≤ trees_count (trees_of ts) + 1
most_of_trees [] = omega arith
most_of_trees (t ∷ ts) = omega (arith, most_of_trees ts)
