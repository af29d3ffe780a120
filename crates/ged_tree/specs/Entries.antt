-- The structures of a document as a list, in the order in which a file has them.
use Rattle.std.specs.Prelude.{ℕ, ◌+◌, List, [], ◌∷◌, ◌++◌}
use Rattle.ged_tree.specs.Trees.{Structure, Trees, none, tree}

-- a structure and its level
pub record Entry : Type 0 where
  pub level : ℕ
  pub structure : Structure

-- the list of trees that stand at this level
abbrev pub entries_of : ℕ → Trees → List Entry
entries_of level none = []
entries_of level (tree s below next) =
    record { level = level; structure = s } ∷ (entries_of (level + 1) below ++ entries_of level next)
