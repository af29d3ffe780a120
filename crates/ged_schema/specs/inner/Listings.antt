-- Nothing here need be believed: only private contracts and proofs cite it.
-- The places of structures with unlisted tags, as the walk over a document tells them. Only private functions cite what
-- stands here.
use Rattle.std.specs.Prelude.{◌≡◌, ℕ, ◌+◌, List, [], ◌∷◌, ◌++◌, ◌⊎◌}
use Rattle.ged_line.specs.Bytes.{Bytes}
use Rattle.ged_tree.specs.Trees.{Trees, none, tree, trees_count}
use Rattle.ged_schema.specs.declared.context.Context.{Context}
use Rattle.ged_schema.specs.Tables.{context_below}
use Rattle.ged_schema.specs.Unlisted.{IsUnlisted}

-- the place of a structure with this tag, where the tag is unlisted, and nothing else
abbrev pub OwnPlace : Context → Bytes → ℕ → List ℕ → Type 0
OwnPlace context tag place own =
    (IsUnlisted context tag × (own ≡ place ∷ []))
    ⊎ (¬ (IsUnlisted context tag) × (own ≡ []))

-- the places of the structures with unlisted tags, in order, where the first of the trees stands at a place
abbrev pub ListsUnlisted : Context → ℕ → Trees → List ℕ → Type 0
ListsUnlisted context place none places = places ≡ []
ListsUnlisted context place (tree s below next) places =
    (own under after : List ℕ)
    × OwnPlace context s.tag place own
    × ListsUnlisted (context_below context s.tag) (place + 1) below under
    × ListsUnlisted context (place + 1 + trees_count below) next after
    × (places ≡ own ++ (under ++ after))
