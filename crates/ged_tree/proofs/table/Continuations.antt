-- How many further lines stand before a place.
use Rattle.std.proofs.Common.{◌≡◌, ℕ, Bool, suc, zero, ◌+◌, ◌<◌, ◌≤◌, true, false, List, [], ◌∷◌, ◌++◌, length, map, get_or, ◌-◌, refl, sym, ◌∙◌, ap, subst, arith, inl, inr, append_assoc, length-append}
use Rattle.std.specs.Prelude.{nat_le, if◌then◌else◌, Some, take, drop, slice_get}
use Rattle.std.specs.List.{AllByRecursion}
use Rattle.std.specs.List.Sorted.{IsNonDecreasingBy, IsPartitionPoint}
use Rattle.std.proofs.lemmas.Bool.{cases_Bool}
use Rattle.std.proofs.lemmas.Bool.Decides.{nat_tests}
use Rattle.std.proofs.lemmas.List.{length-map, map-append}
use Rattle.ged_line.specs.Bytes.{Bytes}
use Rattle.ged_line.specs.Lines.{LineParts}
use Rattle.ged_tree.specs.Rows.{Further, further_before, further_of, places_of, set_apart, sliced, texts_of}
use Rattle.ged_tree.specs.declared.forest.continuations.FurtherApart.{FurtherApart}
use Rattle.ged_tree.specs.declared.forest.continuations.FurtherSlice.{FurtherSlice}
use Rattle.ged_tree.specs.declared.forest.continuations.FurtherTable.{FurtherTable}
use Rattle.ged_tree.specs.TreeFaults.{is_cont}
use Rattle.ged_tree.specs.inner.Tables.{OwnLine, own_lines, begins_cont, further_places}

low : (a p : ℕ) → a ≤ p → nat_le a p ≡ true
low a p h = grind (arith, nat_tests)

high : (a p : ℕ) → p < a → nat_le a p ≡ false
high a p h = grind (arith, nat_tests)

-- those that stand before a place are counted, and those that follow are not
pub before_split : (p : ℕ) (xs ys : List ℕ) → AllByRecursion (λ a. a ≤ p) xs → AllByRecursion (λ a. p < a) ys → further_before p (xs ++ ys) ≡ length xs
before_split p [] [] h g = refl
before_split p [] (y ∷ ys) h g = rw (high y p g.0) refl
before_split p (x ∷ xs) ys h g = rw (low x p h.0) (let more = before_split p xs ys h.1 g in omega (arith, more))

pub before_all : (p : ℕ) (places : List ℕ) → AllByRecursion (λ a. a ≤ p) places → further_before p places ≡ length places
before_all p [] h = refl
before_all p (a ∷ as') h = rw (low a p h.0) (let more = before_all p as' h.1 in omega (arith, more))

-- a search for the first line behind a place counts those before it
pub point_is : {A : Type 0} (place : A → ℕ) (p : ℕ) (lines : List A) (n : ℕ) → n ≤ length lines
    → IsPartitionPoint (λ line. nat_le (place line) p ≡ true) (λ line. nat_le (place line) p ≡ false) lines n → n ≡ further_before p (map place lines)
point_is place p [] zero h point = refl
point_is place p [] (suc n) h point = absurd (omega arith)
point_is place p (x ∷ xs) zero h point = rw (point.1 0 x (omega arith) (omega arith)) refl
point_is place p (x ∷ xs) (suc n) h point =
    rw (point.0 0 x (omega arith) (omega arith)) (let more = point_is place p xs n (omega arith) (λ k d low high. point.0 (suc k) d (omega arith) (omega arith), λ k d low high. point.1 (suc k) d (omega arith) (omega arith)) in omega (arith, more))

-- no more are counted than there are
pub before_most : (p : ℕ) (places : List ℕ) → further_before p places ≤ length places
before_most p [] = omega arith
before_most p (a ∷ as') = elim (cases_Bool (nat_le a p)) [
  | inl t ↦ rw t (let more = before_most p as' in omega (arith, more))
  | inr f ↦ rw f (omega arith)
]

-- where the lines stand in order, those beside a number tell whether it is that of the lines before a place
pub point_between : {A : Type 0} (place : A → ℕ) (p : ℕ) (lines : List A) (n : ℕ) → IsNonDecreasingBy place lines → n ≤ length lines
    → ((d : A) → 0 < n → place (get_or lines (n - 1) d) ≤ p) → ((d : A) → n < length lines → p < place (get_or lines n d)) → n ≡ further_before p (map place lines)
point_between place p lines n rising within before behind = point_is place p lines n within (
  (λ k d l h. low (place (get_or lines k d)) p (let some : 0 < n = omega (arith, h) in let last = before d some in let least = rising k (n - 1) d (omega (arith, h)) (omega (arith, within, some)) in omega (arith, last, least))),
  (λ k d l h. high (place (get_or lines k d)) p (let first = behind d (omega (arith, l, h)) in let least = rising n k d l h in omega (arith, first, least))),
)

-- where all of the first ones stand before a place, others may too, and where one of them does not, none of the others is counted
pub before_behind : (p : ℕ) (xs ys : List ℕ) → further_before p xs ≡ length xs → further_before p (xs ++ ys) ≡ length xs + further_before p ys
before_behind p [] ys h = omega arith
before_behind p (x ∷ xs) ys h = elim (cases_Bool (nat_le x p)) [
  | inl t ↦ (let some = rw t at h in let rest = before_behind p xs ys (omega (arith, some)) in rw t (omega (arith, rest)))
  | inr f ↦ absurd (let none_left = rw f at h in omega (arith, none_left))
]

pub before_within_first : (p : ℕ) (xs ys : List ℕ) → further_before p xs < length xs → further_before p (xs ++ ys) ≡ further_before p xs
before_within_first p [] ys h = absurd (omega (arith, h))
before_within_first p (x ∷ xs) ys h = elim (cases_Bool (nat_le x p)) [
  | inl t ↦ (let few = rw t at h in let rest = before_within_first p xs ys (omega (arith, few)) in rw t (omega (arith, rest)))
  | inr f ↦ rw f refl
]

-- the places of a table's further lines
pub places_of_table : (file : Bytes) (table : FurtherTable) → places_of (further_of file table) ≡ map (λ line. line.after) table.slices.items ++ map (λ line. line.after) table.apart.items
places_of_table file table = map-append (λ (line : Further). line.after) (map (sliced file) table.slices.items) (map set_apart table.apart.items) ∙ rw (places_sliced table.slices.items, places_apart table.apart.items) refl
  where
    places_sliced : (lines : List FurtherSlice) → map (λ (line : Further). line.after) (map (sliced file) lines) ≡ map (λ (line : FurtherSlice). line.after) lines
    places_sliced [] = refl
    places_sliced (line ∷ lines) = ap (λ (ps : List ℕ). line.after ∷ ps) (places_sliced lines)

    places_apart : (lines : List FurtherApart) → map (λ (line : Further). line.after) (map set_apart lines) ≡ map (λ (line : FurtherApart). line.after) lines
    places_apart [] = refl
    places_apart (line ∷ lines) = ap (λ (ps : List ℕ). line.after ∷ ps) (places_apart lines)

all_push : (p : ℕ) (places : List ℕ) (a : ℕ) → AllByRecursion (λ x. x ≤ p) places → a ≤ p → AllByRecursion (λ x. x ≤ p) (places ++ a ∷ [])
all_push p [] a h e = (e, tt)
all_push p (x ∷ xs) a h e = (h.0, all_push p xs a h.1 e)

all_later : (p q : ℕ) (places : List ℕ) → p ≤ q → AllByRecursion (λ x. x ≤ p) places → AllByRecursion (λ x. x ≤ q) places
all_later p q [] h a = tt
all_later p q (x ∷ xs) h a = (let first = a.0 in omega (arith, first, h), all_later p q xs h a.1)

all_above : (p q : ℕ) (places : List ℕ) → q ≤ p → AllByRecursion (λ x. p ≤ x) places → AllByRecursion (λ x. q ≤ x) places
all_above p q [] h a = tt
all_above p q (x ∷ xs) h a = (let first = a.0 in omega (arith, first, h), all_above p q xs h a.1)

all_behind : (p : ℕ) (places : List ℕ) → AllByRecursion (λ x. p + 1 ≤ x) places → AllByRecursion (λ x. p < x) places
all_behind p [] a = tt
all_behind p (x ∷ xs) a = (let first = a.0 in omega (arith, first), all_behind p xs a.1)

-- further lines stand behind the structures before them
pub places_from : (p : ℕ) (lines : List LineParts) → AllByRecursion (λ a. p ≤ a) (further_places p lines)
places_from p [] = tt
places_from p (l ∷ ls) = elim (cases_Bool (is_cont l)) [
  | inl e ↦ rw e (omega arith, places_from p ls)
  | inr e ↦ rw e (all_above (p + 1) p (further_places (p + 1) ls) (omega arith) (places_from (p + 1) ls))
]

-- and none stands behind a structure that does not come
pub places_to : (p : ℕ) (lines : List LineParts) → AllByRecursion (λ a. a ≤ p + length (own_lines lines)) (further_places p lines)
places_to p [] = tt
places_to p (l ∷ ls) = elim (cases_Bool (is_cont l)) [
  | inl e ↦ rw e (omega arith, places_to p ls)
  | inr e ↦ rw e (all_later (p + 1 + length (own_lines ls)) (p + suc (length (own_lines ls))) (further_places (p + 1) ls) (omega arith) (places_to (p + 1) ls))
]

-- an own line, and how many further lines stand before it
pub record StartedLine : Type 0 where
  pub line : LineParts
  pub goes_on : Bool
  pub start : ℕ

abbrev pub starts : List ℕ → ℕ → List OwnLine → List StartedLine
starts places place [] = []
starts places place (r ∷ rs) = record { line = r.line; goes_on = r.goes_on; start = further_before place places } ∷ starts places (place + 1) rs

-- the own lines of lines, where so many CONTs stand before them
abbrev pub started_lines : ℕ → List LineParts → List StartedLine
started_lines start [] = []
started_lines start (line ∷ lines) =
    if is_cont line then started_lines (start + 1) lines
    else record { line = line; goes_on = begins_cont lines; start = start } ∷ started_lines start lines

pub started : (p : ℕ) (before : List ℕ) (lines : List LineParts) → AllByRecursion (λ a. a ≤ p) before
    → starts (before ++ further_places p lines) p (own_lines lines) ≡ started_lines (length before) lines
started p before [] h = refl
started p before (l ∷ ls) h = elim (cases_Bool (is_cont l)) [
  | inl e ↦ (
      let size : length (before ++ p ∷ []) ≡ length before + 1 = length-append before (p ∷ []) in
      let more = started p (before ++ p ∷ []) ls (all_push p before p h (omega arith)) in
      let again = append_assoc before (p ∷ []) (further_places p ls) in
      rw e (ap (λ (places : List ℕ). starts places p (own_lines ls)) (sym again) ∙ more ∙ ap (λ (n : ℕ). started_lines n ls) size))
  | inr e ↦ (
      let behind = all_behind p (further_places (p + 1) ls) (places_from (p + 1) ls) in
      rw (e, before_split p before (further_places (p + 1) ls) h behind, started (p + 1) before ls (all_later p (p + 1) before (omega arith) h)) refl)
]

-- each is no greater than those behind it
abbrev AreRising : List ℕ → Type 0
AreRising [] = Unit {0}
AreRising (a ∷ as') = AllByRecursion (λ x. a ≤ x) as' × AreRising as'

places_rise : (p : ℕ) (lines : List LineParts) → AreRising (further_places p lines)
places_rise p [] = tt
places_rise p (l ∷ ls) = elim (cases_Bool (is_cont l)) [
  | inl e ↦ rw e (places_from p ls, places_rise p ls)
  | inr e ↦ rw e (places_rise (p + 1) ls)
]

all_at : {A : Type 0} (place : A → ℕ) (a : ℕ) (lines : List A) (j : ℕ) (d : A) → AllByRecursion (λ x. a ≤ x) (map place lines) → j < length lines → a ≤ place (get_or lines j d)
all_at place a [] j d h l = absurd (omega arith)
all_at place a (x ∷ xs) zero d h l = h.0
all_at place a (x ∷ xs) (suc j) d h l = all_at place a xs j d h.1 (omega arith)

in_order : {A : Type 0} (place : A → ℕ) (lines : List A) → AreRising (map place lines) → IsNonDecreasingBy place lines
in_order place [] h i j d le lt = absurd (omega arith)
in_order place (x ∷ xs) h zero zero d le lt = omega arith
in_order place (x ∷ xs) h zero (suc j) d le lt = all_at place (place x) xs j d h.0 (omega arith)
in_order place (x ∷ xs) h (suc i) zero d le lt = absurd (omega arith)
in_order place (x ∷ xs) h (suc i) (suc j) d le lt = in_order place xs h.1 i j d (omega arith) (omega arith)

all_first : (a : ℕ) (xs ys : List ℕ) → AllByRecursion (λ x. a ≤ x) (xs ++ ys) → AllByRecursion (λ x. a ≤ x) xs
all_first a [] ys h = tt
all_first a (x ∷ xs) ys h = (h.0, all_first a xs ys h.1)

rise_apart : (xs ys : List ℕ) → AreRising (xs ++ ys) → AreRising xs × AreRising ys
rise_apart [] ys h = (tt, h)
rise_apart (x ∷ xs) ys h = (let rest = rise_apart xs ys h.1 in ((all_first x xs ys h.0, rest.0), rest.1))

pub further_in_order : (file : Bytes) (table : FurtherTable) (lines : List LineParts) → places_of (further_of file table) ≡ further_places 0 lines
    → IsNonDecreasingBy (λ line. line.after) table.slices.items × IsNonDecreasingBy (λ line. line.after) table.apart.items
further_in_order file table lines e =
    let rise = subst AreRising (sym e ∙ places_of_table file table) (places_rise 0 lines) in
    let both = rise_apart (map (λ line. line.after) table.slices.items) (map (λ line. line.after) table.apart.items) rise in
    (in_order (λ line. line.after) table.slices.items both.0, in_order (λ line. line.after) table.apart.items both.1)

-- the text of a line that is a slice, and of one behind those
pub text_sliced : (file : Bytes) (slices : List FurtherSlice) (others : List Further) (n : ℕ) (s : FurtherSlice) → n < length slices → s ≡ get_or slices n s
    → slice_get (texts_of (map (sliced file) slices ++ others)) n ≡ Some (take s.length (drop s.start file))
text_sliced file [] others n s h e = absurd (omega (arith, h))
text_sliced file (x ∷ xs) others zero s h e = ap (λ (line : FurtherSlice). Some (take line.length (drop line.start file))) (sym e)
text_sliced file (x ∷ xs) others (suc n) s h e = text_sliced file xs others n s (omega (arith, h)) e

pub text_behind : (file : Bytes) (slices : List FurtherSlice) (others : List Further) (n k : ℕ) → n ≡ length slices + k → slice_get (texts_of (map (sliced file) slices ++ others)) n ≡ slice_get (texts_of others) k
text_behind file [] others n k e = ap (λ (i : ℕ). slice_get (texts_of others) i) (e ∙ (let z : 0 + k ≡ k = omega arith in z))
text_behind file (x ∷ xs) others zero k e = absurd (omega (arith, e))
text_behind file (x ∷ xs) others (suc n) k e = text_behind file xs others n k (omega (arith, e))

pub text_set_apart : (lines : List FurtherApart) (k : ℕ) (line : FurtherApart) → k < length lines → line ≡ get_or lines k line → slice_get (texts_of (map set_apart lines)) k ≡ Some line.text.now
text_set_apart [] k line h e = absurd (omega (arith, h))
text_set_apart (x ∷ xs) zero line h e = ap (λ (l : FurtherApart). Some l.text.now) (sym e)
text_set_apart (x ∷ xs) (suc k) line h e = text_set_apart xs k line (omega (arith, h)) e

pub length-further : (file : Bytes) (table : FurtherTable) → length (further_of file table) ≡ length table.slices.items + length table.apart.items
length-further file table = (let size = length-append (map (sliced file) table.slices.items) (map set_apart table.apart.items) in omega (arith, size, length-map table.slices.items (sliced file), length-map table.apart.items set_apart))
