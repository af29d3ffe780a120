-- The list of a document's structures.
use Rattle.std.proofs.Common.{◌≡◌, ℕ, ◌+◌, ◌<◌, List, [], ◌∷◌, ◌++◌, map, Some, length, slice_get, sym, ◌∙◌, ap, refl, arith, append_assoc, append-nil}
use Rattle.std.proofs.lemmas.List.{length-map, map-append}
use Rattle.std.proofs.lemmas.Option.{slice_get-get_or, slice_get-map}
use Rattle.std.specs.Option.{option_map}
use Rattle.ged_tree.specs.Trees.{Trees, none, tree, trees_count, line_count, lines_count}
use Rattle.ged_tree.specs.Places.{level_at, structure_at}
use Rattle.ged_tree.specs.Entries.{Entry, entries_of}
use Rattle.ged_tree.specs.Rows.{TableRow, rows_of}
use Rattle.ged_tree.proofs.theory.RowsAtPlaces.{length-rows_of, rows_at, row_at}

-- a list that is empty, or begins above a level
abbrev EndsLevel : ℕ → List Entry → Type 0
EndsLevel l [] = Unit {0}
EndsLevel l (e ∷ es) = e.level < l

ends_deeper : (l : ℕ) (es : List Entry) → EndsLevel l es → EndsLevel (l + 1) es
ends_deeper l [] h = tt
ends_deeper l (e ∷ es) h = omega (arith, h)

ends_next : (l : ℕ) (n : Trees) (es : List Entry) → EndsLevel l es → EndsLevel (l + 1) (entries_of l n ++ es)
ends_next l none es h = ends_deeper l es h
ends_next l (tree s b n) es h = omega arith

abbrev first_of : Entry → List Entry → Entry
first_of d [] = d
first_of d (e ∷ es) = e

abbrev rest_of : List Entry → List Entry
rest_of [] = []
rest_of (e ∷ es) = es

-- trees at a level are read from the front of a list that goes on above that level
same_trees : (l : ℕ) (w u : Trees) (xs ys : List Entry) → EndsLevel l xs → EndsLevel l ys → entries_of l w ++ xs ≡ entries_of l u ++ ys → (w ≡ u) × (xs ≡ ys)
same_trees l none none xs ys f g h = (refl, h)
same_trees l none (tree s b n) [] ys f g h = absurd cc
same_trees l none (tree s b n) (x ∷ xs) ys f g h = absurd (omega (arith, f, ap (λ (es : List Entry). (first_of x es).level) h))
same_trees l (tree s b n) none xs [] f g h = absurd cc
same_trees l (tree s b n) none xs (y ∷ ys) f g h = absurd (omega (arith, g, ap (λ (es : List Entry). (first_of y es).level) h))
same_trees l (tree s b n) (tree t c m) xs ys f g h =
    let d : Entry = record { level = l; structure = s } in
    let e : s ≡ t = ap (λ (es : List Entry). (first_of d es).structure) h in
    let rest : (entries_of (l + 1) b ++ entries_of l n) ++ xs ≡ (entries_of (l + 1) c ++ entries_of l m) ++ ys = ap rest_of h in
    let more : entries_of (l + 1) b ++ (entries_of l n ++ xs) ≡ entries_of (l + 1) c ++ (entries_of l m ++ ys) =
    sym (append_assoc (entries_of (l + 1) b) (entries_of l n) xs) ∙ rest ∙ append_assoc (entries_of (l + 1) c) (entries_of l m) ys in
    let below = same_trees (l + 1) b c (entries_of l n ++ xs) (entries_of l m ++ ys) (ends_next l n xs f) (ends_next l m ys g) more in
    let beside = same_trees l n m xs ys f g below.1 in
    (rw (e, below.0, beside.0) refl, beside.1)

-- trees are those of the list of their structures
pub one_list : (l : ℕ) (w u : Trees) → entries_of l w ≡ entries_of l u → w ≡ u
one_list l w u h = (same_trees l w u [] [] tt tt (rw (append-nil, append-nil) h)).0

abbrev entry_of : TableRow → Entry
entry_of r = record { level = r.level; structure = r.structure }

-- the list tells of each row what stands at no place and no line
entries_of_rows : (l k i : ℕ) (w : Trees) → entries_of l w ≡ map entry_of (rows_of l k i w)
entries_of_rows l k i none = refl
entries_of_rows l k i (tree s b n) =
    let below = rows_of (l + 1) (k + 1) (i + line_count s.payload) b in
    let next = rows_of l (k + (1 + trees_count b)) (i + (line_count s.payload + lines_count b)) n in
    rw (map-append entry_of below next, entries_of_rows (l + 1) (k + 1) (i + line_count s.payload) b, entries_of_rows l (k + (1 + trees_count b)) (i + (line_count s.payload + lines_count b)) n) refl

pub length-entries_of : (w : Trees) → length (entries_of 0 w) ≡ trees_count w
length-entries_of w = ap (λ (es : List Entry). length es) (entries_of_rows 0 0 1 w) ∙ length-map (rows_of 0 0 1 w) entry_of ∙ length-rows_of 0 0 1 w

pub entry_at_place : (w : Trees) (p : ℕ) → p < trees_count w → slice_get (entries_of 0 w) p ≡ Some (record { level = level_at 0 w p; structure = structure_at w p })
unfolding structure_at
entry_at_place w p h =
    let rows = rows_of 0 0 1 w in
    let d : TableRow = row_at 0 0 1 w p in
    let inside : p < length rows = omega (arith, h, length-rows_of 0 0 1 w) in
    ap (λ (es : List Entry). slice_get es p) (entries_of_rows 0 0 1 w)
    ∙ slice_get-map entry_of rows p
    ∙ ap (option_map entry_of) (slice_get-get_or rows p d inside ∙ ap Some (rows_at 0 0 1 w p d h))
