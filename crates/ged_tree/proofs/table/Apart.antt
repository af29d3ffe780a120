-- The texts that a table keeps apart from the file.
use Rattle.std.proofs.Common.{◌≡◌, ℕ, suc, zero, ◌<◌, ◌≤◌, ◌==◌, true, false, List, [], ◌∷◌, ◌++◌, length, get_or, refl, sym, ◌∙◌, arith, inl, inr}
use Rattle.std.specs.Prelude.{nat_lt}
use Rattle.std.specs.List.{AllByRecursion}
use Rattle.std.specs.List.Sorted.{IsNonDecreasingBy, IsPartitionPoint}
use Rattle.std.proofs.lemmas.Bool.{cases_lt, ltb-true, ltb-false}
use Rattle.std.proofs.lemmas.Bool.Decides.{nat_tests}
use Rattle.ged_tree.specs.Rows.{text_apart}
use Rattle.ged_tree.specs.declared.table.packed.TextApart.{TextApart}

same_place : (a p : ℕ) → a ≡ p → (a == p) ≡ true
same_place a p h = grind (arith, nat_tests)

other_place : (a p : ℕ) → ¬ (a ≡ p) → (a == p) ≡ false
other_place a p h = grind (arith, nat_tests)

-- where all texts stand behind a place, it has none
none_behind : (p : ℕ) (texts : List TextApart) → ((i : ℕ) (d : TextApart) → i < length texts → p < (get_or texts i d).place) → text_apart texts p ≡ []
none_behind p [] h = refl
none_behind p (x ∷ xs) h =
    let first = h 0 x (omega arith) in
    rw (other_place x.place p (λ e. omega (arith, e, first))) (none_behind p xs (λ i d l. h (suc i) d (omega arith)))

sorted_rest : (x : TextApart) (xs : List TextApart) → IsNonDecreasingBy (λ text. text.place) (x ∷ xs) → IsNonDecreasingBy (λ text. text.place) xs
sorted_rest x xs h i j d l m = h (suc i) (suc j) d (omega arith) (omega arith)

-- the search finds the text of a place that has one
pub found_apart : (p : ℕ) (texts : List TextApart) (n : ℕ) (d : TextApart) → IsNonDecreasingBy (λ text. text.place) texts → ¬ (text_apart texts p ≡ []) → n ≤ length texts
    → IsPartitionPoint (λ text. nat_lt text.place p ≡ true) (λ text. nat_lt text.place p ≡ false) texts n → (n < length texts) × ((get_or texts n d).text.now ≡ text_apart texts p)
found_apart p [] n d s f h point = absurd (f refl)
found_apart p (x ∷ xs) zero d s f h point =
    let near : p ≤ x.place = ltb-false x.place p (point.1 0 x (omega arith) (omega arith)) in
    elim (cases_lt p x.place) [
      | inl far ↦ absurd (f (none_behind p (x ∷ xs) (λ i e l. (let above = s 0 i e (omega arith) l in omega (arith, above, far)))))
      | inr close ↦ (
          let e : x.place ≡ p = omega arith in
          (omega arith, rw (same_place x.place p e) refl))
    ]
found_apart p (x ∷ xs) (suc n) d s f h point =
    let low : x.place < p = ltb-true x.place p (point.0 0 x (omega arith) (omega arith)) in
    let skip : text_apart (x ∷ xs) p ≡ text_apart xs p = rw (other_place x.place p (λ e. omega (arith, e, low))) refl in
    let more = found_apart p xs n d (sorted_rest x xs s) (λ e. f (skip ∙ e)) (omega arith) (λ k e low high. point.0 (suc k) e (omega arith) (omega arith), λ k e low high. point.1 (suc k) e (omega arith) (omega arith)) in
    (omega (arith, more.0), more.1 ∙ sym skip)

-- a text put behind the others is not found at another place
pub apart_other : (p : ℕ) (texts : List TextApart) (t : TextApart) → ¬ (t.place ≡ p) → text_apart (texts ++ t ∷ []) p ≡ text_apart texts p
apart_other p [] t h = rw (other_place t.place p h) refl
apart_other p (x ∷ xs) t h = rw (apart_other p xs t h) refl

-- and it is found at its own where the others stand before it
pub apart_here : (p : ℕ) (texts : List TextApart) (t : TextApart) → t.place ≡ p → AllByRecursion (λ text. text.place < p) texts → text_apart (texts ++ t ∷ []) p ≡ t.text.now
apart_here p [] t e h = rw (same_place t.place p e) refl
apart_here p (x ∷ xs) t e h =
    let low = h.0 in
    rw (other_place x.place p (λ z. omega (arith, z, low))) (apart_here p xs t e h.1)

pub low_at : (p : ℕ) (texts : List TextApart) (i : ℕ) (d : TextApart) → AllByRecursion (λ text. text.place < p) texts → i < length texts → (get_or texts i d).place < p
low_at p [] i d h l = absurd (omega arith)
low_at p (x ∷ xs) zero d h l = h.0
low_at p (x ∷ xs) (suc i) d h l = low_at p xs i d h.1 (omega arith)

pub low_later : (p q : ℕ) (texts : List TextApart) → p ≤ q → AllByRecursion (λ text. text.place < p) texts → AllByRecursion (λ text. text.place < q) texts
low_later p q [] h a = tt
low_later p q (x ∷ xs) h a = (let first = a.0 in omega (arith, first, h), low_later p q xs h a.1)

pub low_push : (p : ℕ) (texts : List TextApart) (t : TextApart) → AllByRecursion (λ text. text.place < p) texts → t.place < p → AllByRecursion (λ text. text.place < p) (texts ++ t ∷ [])
low_push p [] t a h = (h, tt)
low_push p (x ∷ xs) t a h = (a.0, low_push p xs t a.1 h)
