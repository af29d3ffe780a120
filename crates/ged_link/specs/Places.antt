-- The places of records, and what an index keeps of them.
use Rattle.std.specs.Prelude.{◌≡◌, ℕ, ◌+◌, List, [], ◌∷◌, Some, min, map, drop, slice_get}
use Rattle.ged_tree.specs.Trees.{Trees, none, tree, trees_count}

-- the places of trees side by side, in order, where the first of them stands at this place
abbrev pub places_from : ℕ → Trees → List ℕ
places_from place none = []
places_from place (tree s below next) = place ∷ places_from (place + 1 + trees_count below) next

-- the places of a document's records by their numbers: those of all its trees but HEAD's
abbrev pub record_places : Trees → List ℕ
record_places d = drop 1 (places_from 0 d)

-- the record with this number, counted from 0, stands at this place
abbrev pub IsRecordPlace : Trees → ℕ → ℕ → Type 0
IsRecordPlace d number place = slice_get (record_places d) number ≡ Some place

-- a place as it is kept: the greatest number stands for all that 32 bits do not hold
abbrev pub place_kept : ℕ → ℕ
place_kept place = min place 4294967295

-- these are the places of all records, by the records' numbers, each as it is kept
abbrev pub ArePlaces : Trees → List ℕ → Type 0
ArePlaces d places = places ≡ map place_kept (record_places d)
