-- Nothing here need be believed: only private contracts and proofs cite it.
-- The order of trees side by side, by their tags alone.
use Rattle.std.specs.Prelude.{◌≢◌, List, [], ◌∷◌, ⊤}
use Rattle.std.specs.declared.cmp.Ordering.TheVariants.{Greater}
use Rattle.ged_line.specs.Bytes.{Bytes}
use Rattle.ged_line.specs.Names.{tag_order}
use Rattle.ged_tree.specs.Trees.{Trees, none, tree}

-- the tags of trees that stand side by side
abbrev pub tags : Trees → List Bytes
tags none = []
tags (tree s below next) = s.tag ∷ tags next

-- no tag is followed by one that stands before it in the order of tags
abbrev pub TagsInOrder : List Bytes → Type 0
TagsInOrder [] = ⊤
TagsInOrder (a ∷ []) = ⊤
TagsInOrder (a ∷ b ∷ rest) = (tag_order a b ≢ Greater) × TagsInOrder (b ∷ rest)
