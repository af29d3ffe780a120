-- The lines on which structures begin.
use Rattle.std.proofs.Common.{◌≡◌, ℕ, suc, ◌+◌, ◌-◌, ◌<◌, ◌≤◌, List, [], ◌∷◌, ◌++◌, Some, length, slice_get, ◌∙◌, ap, refl, arith, inl, inr, append_assoc}
use Rattle.std.proofs.lemmas.Bool.{cases_lt}
use Rattle.ged_line.specs.Lines.{LineParts}
use Rattle.ged_tree.specs.Trees.{Structure, Trees, none, tree, trees_count, line_count, lines_count}
use Rattle.ged_tree.specs.Places.{structure_at, level_at, line_at}
use Rattle.ged_tree.specs.DocumentLines.{structure_lines, lines_of, document_lines}
use Rattle.ged_tree.specs.inner.Trailers.{trailer_line}
use Rattle.ged_tree.specs.Laws.{own_line}
use Rattle.ged_tree.proofs.theory.LineCounts.{length-structure_lines, length_lines}
use Rattle.ged_tree.proofs.theory.Places.{from_first, from_below, from_next}
use Rattle.ged_tree.proofs.theory.Walks.{level_first, level_below, level_next, line_first, line_below, line_next}

line_start : (i : ℕ) (w : Trees) → line_at i w 0 ≡ i
line_start i none = refl
line_start i (tree s b n) = refl

-- past the last structure the lines of all are counted
line_end : (i : ℕ) (w : Trees) → line_at i w (trees_count w) ≡ i + lines_count w
line_end i none = omega arith
line_end i (tree s b n) =
    let m : trees_count (tree s b n) - 1 - trees_count b ≡ trees_count n = omega arith in
    rw (line_next i s b n (trees_count (tree s b n)) (omega arith), m, line_end (i + (line_count s.payload + lines_count b)) n) (omega arith)

pub next_line : (i : ℕ) (w : Trees) (p : ℕ) → p < trees_count w → line_at i w (p + 1) ≡ line_at i w p + line_count (structure_at w p).payload
unfolding structure_at
next_line i none p h = absurd (omega (arith, h))
next_line i (tree s b n) p h =
    let j = i + line_count s.payload in
    let k = i + (line_count s.payload + lines_count b) in
    elim (cases_lt (trees_count b) p) [
      | inl past ↦
          (let m : (p + 1) - 1 - trees_count b ≡ (p - 1 - trees_count b) + 1 = omega arith in
          rw (line_next i s b n (p + 1) (omega arith), line_next i s b n p past, from_next s b n p past, m) (next_line k n (p - 1 - trees_count b) (omega arith)))
      | inr within ↦ elim (cases_lt p (trees_count b)) [
        | inl more ↦ elim (cases_lt 0 p) [
          | inl later ↦
              (let m : (p + 1) - 1 ≡ (p - 1) + 1 = omega arith in
              rw (line_below i s b n (p + 1) (omega arith) (omega arith), line_below i s b n p later within, from_below s b n p later within, m) (next_line j b (p - 1) (omega arith)))
          | inr first ↦
              (let e : p ≡ 0 = omega arith in
              let m : (p + 1) - 1 ≡ 0 = omega arith in
              rw (line_below i s b n (p + 1) (omega arith) (omega arith), line_first i s b n p e, from_first s b n p e, m) (line_start j b))
        ]
        | inr last ↦
            (let z : (p + 1) - 1 - trees_count b ≡ 0 = omega arith in
            elim (cases_lt 0 p) [
              | inl later ↦
                  (let m : (p - 1) + 1 ≡ trees_count b = omega arith in
                  let told : line_at j b ((p - 1) + 1) ≡ line_at j b (p - 1) + line_count (structure_at b (p - 1)).payload = next_line j b (p - 1) (omega arith) in
                  let end : line_at j b (trees_count b) ≡ line_at j b (p - 1) + line_count (structure_at b (p - 1)).payload = rw m at told in
                  rw (line_next i s b n (p + 1) (omega arith), line_below i s b n p later within, from_below s b n p later within, z, line_start k n) (omega (arith, end, line_end j b)))
              | inr first ↦
                  (let e : p ≡ 0 = omega arith in
                  let few : lines_count b ≡ 0 = no_lines b (omega arith) in
                  rw (line_next i s b n (p + 1) (omega arith), line_first i s b n p e, from_first s b n p e, z, line_start k n) (omega (arith, few)))
            ])
      ]
    ]
  where
    no_lines : (t : Trees) → trees_count t ≡ 0 → lines_count t ≡ 0
    no_lines none h = refl
    no_lines (tree s b n) h = absurd (omega (arith, h))

-- no structure begins before the first one
line_from : (i : ℕ) (w : Trees) (p : ℕ) → i ≤ line_at i w p
line_from i none p = omega arith
line_from i (tree s b n) p =
    elim (cases_lt 0 p) [
      | inr first ↦ (let e : p ≡ 0 = omega arith in rw (line_first i s b n p e) (omega arith))
      | inl later ↦ elim (cases_lt (trees_count b) p) [
        | inl past ↦ rw (line_next i s b n p past) (omega (arith, line_from (i + (line_count s.payload + lines_count b)) n (p - 1 - trees_count b)))
        | inr within ↦ rw (line_below i s b n p later within) (omega (arith, line_from (i + line_count s.payload) b (p - 1)))
      ]
    ]

get_past : {A : Type 0} (xs ys : List A) (k : ℕ) → slice_get (xs ++ ys) (length xs + k) ≡ slice_get ys k
get_past [] ys k = ap (slice_get ys) (let e : 0 + k ≡ k = omega arith in e)
get_past (x ∷ xs) ys k = let e : length (x ∷ xs) + k ≡ suc (length xs + k) = omega arith in rw e (get_past xs ys k)

-- what stands behind the lines of a tree's own structure, and behind those of the trees below it
lines_split : (l : ℕ) (s : Structure) (b n : Trees) (zs : List LineParts) → lines_of l (tree s b n) ++ zs ≡ structure_lines l s ++ (lines_of (l + 1) b ++ (lines_of l n ++ zs))
lines_split l s b n zs =
    append_assoc (structure_lines l s ++ lines_of (l + 1) b) (lines_of l n) zs
    ∙ append_assoc (structure_lines l s) (lines_of (l + 1) b) (lines_of l n ++ zs)

line_stands : (l i : ℕ) (w : Trees) (p : ℕ) (zs : List LineParts) → p < trees_count w → slice_get (lines_of l w ++ zs) (line_at i w p - i) ≡ Some (own_line (level_at l w p) (structure_at w p))
unfolding structure_at
line_stands l i none p zs h = absurd (omega (arith, h))
line_stands l i (tree s b n) p zs h =
    let own = structure_lines l s in
    let below = lines_of (l + 1) b in
    let after = lines_of l n ++ zs in
    let j = i + line_count s.payload in
    let k = i + (line_count s.payload + lines_count b) in
    elim (cases_lt 0 p) [
      | inr first ↦
          (let e : p ≡ 0 = omega arith in
          let z : i - i ≡ 0 = omega arith in
          rw (line_first i s b n p e, level_first l s b n p e, from_first s b n p e, z) refl)
      | inl later ↦ elim (cases_lt (trees_count b) p) [
        | inl past ↦
            (let q = p - 1 - trees_count b in
            let m : line_at k n q - i ≡ length own + (length below + (line_at k n q - k)) = omega (arith, line_from k n q, length-structure_lines l s, length_lines (l + 1) b) in
            rw (line_next i s b n p past, level_next l s b n p past, from_next s b n p past, lines_split l s b n zs, m, get_past own (below ++ after) (length below + (line_at k n q - k)), get_past below after (line_at k n q - k))
            (line_stands l k n q zs (omega arith)))
        | inr within ↦
            (let q = p - 1 in
            let m : line_at j b q - i ≡ length own + (line_at j b q - j) = omega (arith, line_from j b q, length-structure_lines l s) in
            rw (line_below i s b n p later within, level_below l s b n p later within, from_below s b n p later within, lines_split l s b n zs, m, get_past own (below ++ after) (line_at j b q - j))
            (line_stands (l + 1) j b q after (omega arith)))
      ]
    ]

pub begins_on_line : (w : Trees) (p : ℕ) → p < trees_count w → slice_get (document_lines w) (line_at 1 w p - 1) ≡ Some (own_line (level_at 0 w p) (structure_at w p))
begins_on_line w p h = line_stands 0 1 w p (trailer_line ∷ []) h
