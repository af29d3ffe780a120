-- Nothing here need be believed: only private contracts and proofs cite it.
use Rattle.std.specs.Prelude.{ℕ, ◌+◌}
use Rattle.ged_tree.specs.Trees.{Tree, trees_count}

abbrev pub structure_count : Tree → ℕ
structure_count t = 1 + trees_count t.children
