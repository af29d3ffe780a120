-- Siblings that stand behind others in one vector.
use Rattle.std.proofs.Common.{◌≡◌, ℕ, ◌-◌, ◌≤◌, List, [], ◌∷◌, ◌++◌, length, take, drop, sym, ap, ◌∙◌, append-nil, arith, length-append, length-drop}
use Rattle.std.proofs.lemmas.List.{length-take, length-take-le, length_push, take-append-le, drop-append-le, take-append-drop, take_all, drop_all, drop_at}
use borrow.Rule.Slice.PartMut.{post_of, put_mid}
use Rattle.ged_canon.specs.declared.writer.rank.RankedSibling.{RankedSibling}

-- one more behind those that stand at the start
module _ (start now next : List RankedSibling) (last : RankedSibling) (long : length start ≤ length now) (is : next ≡ now ++ last ∷ []) where
  pub still_kept : take (length start) now ≡ start → take (length start) next ≡ start
  still_kept kept = ap (take (length start)) is ∙ take-append-le (length start) now (last ∷ []) long ∙ kept

  pub one_more : drop (length start) next ≡ drop (length start) now ++ last ∷ []
  one_more = ap (drop (length start)) is ∙ drop-append-le (length start) now (last ∷ []) long

  pub still_long : length start ≤ length next
  still_long = omega (arith, ap (λ (xs : List RankedSibling). length xs) is, length_push now last)

-- a vector whose end, from a place on, was written
module _ (base len n : ℕ) (all ys items : List RankedSibling) (room : base ≤ length all) (same : length items ≤ length all) (long : length all ≤ len) (kept : length ys ≡ length all - base) (at : n ≡ base) where
  abbrev whole : List RankedSibling
  whole = put_mid base (length all - base) all ys

  written : whole ≡ take base all ++ ys
  written =
      let nothing : post_of base (length all - base) all ≡ [] = drop_all (length all - base) (drop base all) (omega (arith, length-drop base all)) in
      ap (λ (xs : List RankedSibling). take base all ++ (ys ++ xs)) nothing ∙ ap (λ (xs : List RankedSibling). take base all ++ xs) (append-nil ys)

  whole_length : length whole ≡ length all
  whole_length =
      let is = ap (λ (xs : List RankedSibling). length xs) written in
      omega (arith, is, length-append (take base all) ys, length-take-le base all room, kept, room)

  -- its end is what was written there
  pub written_tail : drop n (take len (whole ++ drop (length whole) items)) ≡ ys
  written_tail =
      let none_left : drop (length whole) items ≡ [] = drop_all (length whole) items (omega (arith, whole_length, same)) in
      ap (λ (xs : List RankedSibling). drop n (take len (whole ++ xs))) none_left
      ∙ ap (λ (xs : List RankedSibling). drop n (take len xs)) (append-nil whole)
      ∙ ap (drop n) (take_all len whole (omega (arith, whole_length, long)))
      ∙ ap (drop n) written
      ∙ drop_at (take base all) ys n (length-take-le base all room ∙ sym at)

-- what was behind others is no shorter than they are
pub kept_long : (before after : List RankedSibling) → take (length before) after ≡ before → length before ≤ length after
kept_long before after kept = omega (arith, ap (λ (xs : List RankedSibling). length xs) kept, length-take (length before) after)

-- one sibling, and those that were put behind it
pub headed : (before after : List RankedSibling) (head : RankedSibling) → before ≡ head ∷ [] → take (length before) after ≡ before → after ≡ head ∷ drop (length before) after
headed before after head is kept =
    sym (take-append-drop (length before) after) ∙ ap (λ (xs : List RankedSibling). xs ++ drop (length before) after) (kept ∙ is)
