-- Structures by their paths: the first number of a path says which of the trees side by side, from 0, and each further one
-- which of the children. In a document the tree 0 is HEAD's, and the trees from 1 on are the records'.
use Rattle.std.specs.Prelude.{ℕ, suc, ◌+◌, List, [], ◌∷◌}
use Rattle.ged_tree.specs.Trees.{Structure, Trees, tree, trees_count}

-- the path leads to the structure at this place
pub data LeadsTo : List ℕ → Trees → ℕ → Type 0 where
  here : {s : Structure} {below next : Trees} → LeadsTo (0 ∷ []) (tree s below next) 0
  down : {s : Structure} {below next : Trees} {number place : ℕ} {path : List ℕ}
      → LeadsTo (number ∷ path) below place → LeadsTo (0 ∷ number ∷ path) (tree s below next) (1 + place)
  along : {s : Structure} {below next : Trees} {number place : ℕ} {path : List ℕ}
      → LeadsTo (number ∷ path) next place → LeadsTo (suc number ∷ path) (tree s below next) (1 + trees_count below + place)
