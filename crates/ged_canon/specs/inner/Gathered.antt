-- Nothing here need be believed: only private contracts and proofs cite it.
-- Siblings gathered by the ranks of their tags.
use Rattle.std.specs.Prelude.{◌≡◌, ◌<◌, ◌≤◌, ◌%◌, ◌==◌, ◌++◌, ⊤, ℕ, Bool, List, [], ◌∷◌, filter, zero, suc, ◌⊎◌}
use Rattle.std.specs.Prelude.{Vec}
use Rattle.std.specs.Global.{Global}
use Rattle.std.specs.List.{AllByRecursion}
use Rattle.ged_canon.specs.declared.writer.rank.RankedSibling.{RankedSibling}

-- a sibling's tag has this rank
abbrev pub has_rank : ℕ → RankedSibling → Bool
has_rank rank sibling = sibling.rank == rank

-- the siblings of each of these ranks, in their own order
abbrev pub groups_of : List ℕ → List RankedSibling → List (List RankedSibling)
groups_of [] siblings = []
groups_of (rank ∷ ranks) siblings = filter (has_rank rank) siblings ∷ groups_of ranks siblings

-- what stands in each of several vectors
abbrev pub members : List (Vec RankedSibling Global) → List (List RankedSibling)
members [] = []
members (group ∷ groups) = group.items ∷ members groups

-- lists one behind the other
abbrev pub joined : List (List RankedSibling) → List RankedSibling
joined [] = []
joined (group ∷ groups) = group ++ joined groups

-- groups, with one sibling more at the end of the one at a place
abbrev pub placed : List (List RankedSibling) → ℕ → RankedSibling → List (List RankedSibling)
placed [] at sibling = []
placed (group ∷ groups) zero sibling = (group ++ sibling ∷ []) ∷ groups
placed (group ∷ groups) (suc at) sibling = group ∷ placed groups at sibling

-- each rank is of a tag of at most seven bytes, and below those behind it
abbrev pub IsRising : List ℕ → Type 0
IsRising [] = ⊤
IsRising (rank ∷ ranks) = (rank % 256 ≤ 8) × AllByRecursion (λ next. rank < next) ranks × IsRising ranks

-- a sibling's tag has one of these ranks
abbrev pub IsAmongRanks : List ℕ → RankedSibling → Type 0
IsAmongRanks [] sibling = ⊥
IsAmongRanks (rank ∷ ranks) sibling = (sibling.rank ≡ rank) ⊎ IsAmongRanks ranks sibling
