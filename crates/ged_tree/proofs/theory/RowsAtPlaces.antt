-- The rows of trees, and the trees of rows.
use Rattle.std.proofs.Common.{◌≡◌, ℕ, suc, zero, ◌+◌, ◌-◌, ◌<◌, List, [], ◌∷◌, ◌++◌, length, get_or, ◌∙◌, ap, refl, arith, inl, inr, sub-one, length-append, append_assoc, append-nil}
use Rattle.std.specs.Prelude.{nat_lt}
use Rattle.std.proofs.lemmas.Bool.{cases_lt}
use Rattle.std.proofs.lemmas.Bool.Decides.{nat_tests}
use Rattle.std.proofs.lemmas.List.{get_or_append_left, get_or-append_right}
use Rattle.ged_tree.specs.Trees.{Structure, Trees, none, tree, trees_count, further_lines, line_count, lines_count}
use Rattle.ged_tree.specs.Places.{trees_from, level_at, line_at, below_first, first_structure}
use Rattle.ged_tree.specs.Runs.{leading}
use Rattle.ged_tree.specs.Rows.{TableRow, rows_of, trees_of_rows, trailing}
use Rattle.ged_tree.proofs.theory.Places.{from_below, from_next, leading_none, leading_tree}
use Rattle.ged_tree.proofs.theory.Walks.{level_below, level_next, line_below, line_next}

pub length-rows_of : (l k i : ℕ) (w : Trees) → length (rows_of l k i w) ≡ trees_count w
length-rows_of l k i none = refl
length-rows_of l k i (tree s b n) =
    let below = rows_of (l + 1) (k + 1) (i + line_count s.payload) b in
    let next = rows_of l (k + (1 + trees_count b)) (i + (line_count s.payload + lines_count b)) n in
    omega (arith, length-append below next, length-rows_of (l + 1) (k + 1) (i + line_count s.payload) b, length-rows_of l (k + (1 + trees_count b)) (i + (line_count s.payload + lines_count b)) n)

pub tail_at : {A : Type 0} (x : A) (xs : List A) (p : ℕ) (d : A) → 0 < p → get_or (x ∷ xs) p d ≡ get_or xs (p - 1) d
tail_at x xs zero d h = absurd (omega arith)
tail_at x xs (suc p) d h = rw sub-one refl

-- the row at a place, where the first of the trees stands at level l, place k and line i
abbrev pub row_at : ℕ → ℕ → ℕ → Trees → ℕ → TableRow
row_at l k i w p = record {
  level = level_at l w p;
  after = k + (p + 1 + trees_count (below_first (trees_from w p)));
  line = line_at i w p;
  further = length (further_lines (first_structure (trees_from w p)).payload);
  goes_on = nat_lt 0 (length (further_lines (first_structure (trees_from w p)).payload));
  structure = first_structure (trees_from w p);
}

pub rows_at : (l k i : ℕ) (w : Trees) (p : ℕ) (d : TableRow) → p < trees_count w → get_or (rows_of l k i w) p d ≡ row_at l k i w p
rows_at l k i none p d h = absurd (omega arith)
rows_at l k i (tree s b n) p d h =
    let below = rows_of (l + 1) (k + 1) (i + line_count s.payload) b in
    let next = rows_of l (k + (1 + trees_count b)) (i + (line_count s.payload + lines_count b)) n in
    let here : TableRow = record { level = l; after = k + (1 + trees_count b); line = i; further = length (further_lines s.payload); goes_on = nat_lt 0 (length (further_lines s.payload)); structure = s } in
    let size : length below ≡ trees_count b = length-rows_of (l + 1) (k + 1) (i + line_count s.payload) b in
    elim (cases_lt 0 p) [
      | inr first ↦ (let e : p ≡ 0 = omega arith in rw e refl)
      | inl later ↦ elim (cases_lt (trees_count b) p) [
        | inl past ↦
            (let m : (k + (1 + trees_count b)) + ((p - 1 - trees_count b) + 1 + trees_count (below_first (trees_from n (p - 1 - trees_count b)))) ≡ k + (p + 1 + trees_count (below_first (trees_from n (p - 1 - trees_count b)))) = omega arith in
            rw (tail_at here (below ++ next) p d later, get_or-append_right below next (trees_count b) (p - 1) d size (omega arith), rows_at l (k + (1 + trees_count b)) (i + (line_count s.payload + lines_count b)) n (p - 1 - trees_count b) d (omega arith), from_next s b n p past, level_next l s b n p past, line_next i s b n p past, m) refl)
        | inr within ↦
            (let m : (k + 1) + ((p - 1) + 1 + trees_count (below_first (trees_from b (p - 1)))) ≡ k + (p + 1 + trees_count (below_first (trees_from b (p - 1)))) = omega arith in
            let inside : p - 1 < length below = omega arith in
            rw (tail_at here (below ++ next) p d later, get_or_append_left below next d (p - 1) inside, rows_at (l + 1) (k + 1) (i + line_count s.payload) b (p - 1) d (omega arith), from_below s b n p later within, level_below l s b n p later within, line_below i s b n p later within, m) refl)
      ]
    ]

-- trees beside others
abbrev pub beside : Trees → Trees → Trees
beside none u = u
beside (tree s b n) u = tree s b (beside n u)

pub beside_none : (w : Trees) → beside w none ≡ w
beside_none none = refl
beside_none (tree s b n) = ap (tree s b) (beside_none n)

pub trailing_zero : (w : Trees) (k : ℕ) → k ≡ 0 → trailing w k ≡ w
trailing_zero none k h = refl
trailing_zero (tree s b n) k h = grind (arith, nat_tests)

pub trailing_tree : (s : Structure) (b n : Trees) (k : ℕ) → 0 < k → trailing (tree s b n) k ≡ trailing n (k - 1 - trees_count b)
trailing_tree s b n k h = grind (arith, nat_tests)

pub leading_beside : (w u : Trees) (k : ℕ) → k ≡ trees_count w → leading (beside w u) k ≡ w
leading_beside none u k h = leading_none u k (omega arith)
leading_beside (tree s b n) u k h = rw (leading_tree s b (beside n u) k (omega arith), leading_beside n u (k - 1 - trees_count b) (omega arith)) refl

pub trailing_beside : (w u : Trees) (k : ℕ) → k ≡ trees_count w → trailing (beside w u) k ≡ u
trailing_beside none u k h = trailing_zero u k (omega arith)
trailing_beside (tree s b n) u k h = rw (trailing_tree s b (beside n u) k (omega arith)) (trailing_beside n u (k - 1 - trees_count b) (omega arith))

-- the rows of trees and further rows are the rows of these trees beside others
pub trees_of_more : (l k i : ℕ) (w : Trees) (rs : List TableRow) → trees_of_rows k (rows_of l k i w ++ rs) ≡ beside w (trees_of_rows (k + trees_count w) rs)
trees_of_more l k i none rs = ap (λ (m : ℕ). trees_of_rows m rs) (let e : k ≡ k + 0 = omega arith in e)
trees_of_more l k i (tree s b n) rs =
    let j = i + line_count s.payload in
    let m = i + (line_count s.payload + lines_count b) in
    let below = rows_of (l + 1) (k + 1) j b in
    let next = rows_of l (k + (1 + trees_count b)) m n in
    let size : k + (1 + trees_count b) - (k + 1) ≡ trees_count b = omega arith in
    let place : (k + 1) + trees_count b ≡ k + (1 + trees_count b) = omega arith in
    let last : (k + (1 + trees_count b)) + trees_count n ≡ k + (1 + trees_count b + trees_count n) = omega arith in
    let rest : trees_of_rows (k + 1) ((below ++ next) ++ rs) ≡ beside b (beside n (trees_of_rows (k + (1 + trees_count b + trees_count n)) rs)) =
    rw (append_assoc below next rs, trees_of_more (l + 1) (k + 1) j b (next ++ rs), place, trees_of_more l (k + (1 + trees_count b)) m n rs, last) refl in
    rw (size, rest, leading_beside b (beside n (trees_of_rows (k + (1 + trees_count b + trees_count n)) rs)) (trees_count b) refl, trailing_beside b (beside n (trees_of_rows (k + (1 + trees_count b + trees_count n)) rs)) (trees_count b) refl) refl

-- trees are those of their rows
pub trees_of_rows_of : (l k i : ℕ) (w : Trees) → trees_of_rows k (rows_of l k i w) ≡ w
trees_of_rows_of l k i w = rw append-nil at (trees_of_more l k i w []) ∙ beside_none w
