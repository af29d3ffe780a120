-- The pointers of a document in the order of their places, and what is listed of them.
use Rattle.std.proofs.Common.{◌≡◌, true, false, ◌≢◌, ℕ, zero, suc, ◌+◌, ◌-◌, ◌<◌, ◌≤◌, List, [], ◌∷◌, ◌++◌, Some, ◌⊎◌, inl, inr, refl, sym, ap, ◌∙◌, arith, subst, drop, length, map, slice_get, slice_set, append_assoc, Bor}
use Rattle.std.specs.Prelude.{codes, None}
use Rattle.std.proofs.lemmas.List.{append-nil}
use Rattle.std.proofs.lemmas.Bool.{cases_lt}
use Rattle.std.proofs.lemmas.Bool.Decides.{nat_tests}
use Rattle.std.proofs.lemmas.Option.{slice_get_within}
use Rattle.std.proofs.Math.ListN.{drop_of_length-le}
use Rattle.ged_line.specs.Bytes.{Bytes}
use Rattle.ged_line.specs.Lines.{LineParts, Value, line_parts, Empty}
use Rattle.ged_line.specs.Views.{viewed_value}
use Rattle.ged_line.specs.declared.line.view.ValueView.{ValueView}
use Rattle.ged_line.specs.declared.line.view.ValueView.TheVariants as views
use Rattle.ged_tree.specs.Trees.{Structure, Trees, none, tree, trees_count, further_lines}
use Rattle.ged_tree.specs.Places.{structure_at}
use Rattle.ged_tree.specs.DocumentLines.{line_value, first_value, lines_of, document_lines}
use Rattle.ged_tree.specs.declared.payload.Payload.{Payload}
use Rattle.ged_tree.specs.declared.payload.Payload.TheVariants.{Void, Pointer, Text}
use Rattle.ged_tree.specs.Views.{is_pointer}
use Rattle.ged_link.specs.Targets.{PointsAt}
use Rattle.ged_link.specs.declared.targets.Target.{Target}
use Rattle.ged_link.specs.inner.PointerLists.{line_pointer, line_pointers, own_pointer, pointers, pointers_from, IsListedPointer, AreListedFirst, AreListedPointers, AreTargetsBefore}
use Rattle.ged_link.proofs.PlaceCases.{place_cases, at_first, at_below, at_next}
use Rattle.ged_link.proofs.TargetLemmas.{last_or}

-- ---- one target more

set_or : {X : Type 0} (xs : List X) (k : ℕ) (y z : X) (i : ℕ) → slice_get (slice_set xs k y) i ≡ Some z → ((i ≡ k) × (y ≡ z)) ⊎ ((i ≢ k) × (slice_get xs i ≡ Some z))
set_or [] k y z i is = absurd (cc)
set_or (x ∷ xs) zero y z zero is = inl (refl, cc)
set_or (x ∷ xs) zero y z (suc i) is = inr (λ e. omega (arith, e), is)
set_or (x ∷ xs) (suc k) y z zero is = inr (λ e. omega (arith, e), is)
set_or (x ∷ xs) (suc k) y z (suc i) is = elim (set_or xs k y z i is) [
  | inl here ↦ inl (ap suc here.0, here.1)
  | inr other ↦ inr (λ e. other.0 (omega (arith, e)), other.1)
]

module _ (d : Trees) (targets : List Target) (new : Target) (points : PointsAt d new.place new.number) where
  -- in the place of what is listed
  pub told_set : (count : ℕ) → AreTargetsBefore d count targets → AreTargetsBefore d (count + 1) (slice_set targets count new)
  told_set count are index target before is = elim (set_or targets count new target index is) [
    | inl here ↦ rw (← here.1) points
    | inr other ↦ are index target (omega (arith, before, other.0)) other.1
  ]

  -- behind all
  pub told_pushed : (count : ℕ) → count ≡ length targets → AreTargetsBefore d count targets → AreTargetsBefore d (count + 1) (targets ++ new ∷ [])
  told_pushed count all are index target before is = elim (last_or targets new target index is) [
    | inl old ↦ are index target (rw all (within targets index target old)) old
    | inr same ↦ rw (← same) points
  ]
    where
      within : (ts : List Target) (i : ℕ) (t : Target) → slice_get ts i ≡ Some t → i < length ts
      within = slice_get_within

-- where the list has ended nothing is left of it
pub none_listed : (targets : List Target) (k : ℕ) (left : List (Bytes × Bytes)) → length targets ≤ k → AreListedFirst (drop k targets) left
none_listed targets k left past = subst (λ (ts : List Target). AreListedFirst ts left) (sym (drop_of_length-le targets past)) tt

-- one pointer more is listed
pub listed_more : (targets : List Target) (all : List (Bytes × Bytes)) (new : Target) (tag name : Bytes) → IsListedPointer new tag name → AreListedPointers targets all
    → AreListedPointers (targets ++ new ∷ []) (all ++ (tag, name) ∷ [])
listed_more [] [] new tag name is are = ((is, tt), refl)
listed_more [] (p ∷ all) new tag name is are = absurd (omega (arith, are.1))
listed_more (t ∷ targets) [] new tag name is are = absurd are.0
listed_more (t ∷ targets) (p ∷ all) new tag name is are =
    let rest = listed_more targets all new tag name is (are.0.1, omega (arith, are.1)) in
    ((are.0.0, rest.0), ap suc rest.1)

-- ---- the lines of a document

pub lines_apart : (a b : List LineParts) → line_pointers (a ++ b) ≡ line_pointers a ++ line_pointers b
lines_apart [] b = refl
lines_apart (line ∷ a) b = ap (λ ps. line_pointer line.tag line.value ++ ps) (lines_apart a b) ∙ sym (append_assoc (line_pointer line.tag line.value) (line_pointers a) (line_pointers b))

pub one_line : (lines : List LineParts) (line : LineParts) → line_pointers (lines ++ line ∷ []) ≡ line_pointers lines ++ line_pointer line.tag line.value
one_line lines line = lines_apart lines (line ∷ []) ∙ ap (λ ps. line_pointers lines ++ ps) (append-nil (line_pointer line.tag line.value))

pub no_pointer : (tag : Bytes) (v : ValueView) (value : Value) → viewed_value v ≡ value → ((x : Bor Bytes) → v ≡ views.Pointer x → ⊥) → line_pointer tag value ≡ []
no_pointer tag views.Empty value e other = ap (line_pointer tag) (sym e)
no_pointer tag views.Void value e other = ap (line_pointer tag) (sym e)
no_pointer tag (views.Pointer x) value e other = absurd (other x refl)
no_pointer tag (views.Text x) value e other = ap (line_pointer tag) (sym e)

-- no further line of a payload has one
further_have_none : (level : ℕ) (texts : List Bytes) → line_pointers (map (λ text. line_parts (level + 1) None (codes "CONT") (line_value text)) texts) ≡ []
further_have_none level [] = refl
further_have_none level ([] ∷ texts) = further_have_none level texts
further_have_none level ((b ∷ bs) ∷ texts) = further_have_none level texts

own_line : (tag : Bytes) (payload : Payload) → line_pointer tag (first_value payload) ≡ own_pointer tag payload
own_line tag Void = refl
own_line tag (Pointer name) = refl
own_line tag (Text []) = refl
own_line tag (Text ([] ∷ lines)) = refl
own_line tag (Text ((b ∷ bs) ∷ lines)) = refl

trees_have : (level : ℕ) (t : Trees) → line_pointers (lines_of level t) ≡ pointers t
trees_have level none = refl
trees_have level (tree s b n) =
    let further = map (λ text. line_parts (level + 1) None (codes "CONT") (line_value text)) (further_lines s.payload) in
    let own = line_pointer s.tag (first_value s.payload) in
    ap (λ ps. own ++ ps)
    (lines_apart (further ++ lines_of (level + 1) b) (lines_of level n)
    ∙ ap (λ ps. ps ++ line_pointers (lines_of level n)) (lines_apart further (lines_of (level + 1) b) ∙ ap (λ ps. ps ++ line_pointers (lines_of (level + 1) b)) (further_have_none level (further_lines s.payload)))
    ∙ ap (λ ps. ps ++ line_pointers (lines_of level n)) (trees_have (level + 1) b)
    ∙ ap (λ ps. pointers b ++ ps) (trees_have level n))
    ∙ ap (λ ps. ps ++ (pointers b ++ pointers n)) (own_line s.tag s.payload)

pub document_has : (d : Trees) → line_pointers (document_lines d) ≡ pointers d
document_has d = lines_apart (lines_of 0 d) (line_parts 0 None (codes "TRLR") Empty ∷ []) ∙ append-nil (line_pointers (lines_of 0 d)) ∙ trees_have 0 d

-- ---- the structures from a place on

from_start : (t : Trees) (k : ℕ) → k ≡ 0 → pointers_from t k ≡ pointers t
from_start none k e = refl
from_start (tree s b n) k e = grind (arith, nat_tests, e)

from_below : (s : Structure) (b n : Trees) (k : ℕ) → 0 < k → k ≤ trees_count b → pointers_from (tree s b n) k ≡ pointers_from b (k - 1) ++ pointers n
from_below s b n k some within = grind (arith, nat_tests, some, within)

from_next : (s : Structure) (b n : Trees) (k : ℕ) → trees_count b < k → pointers_from (tree s b n) k ≡ pointers_from n (k - 1 - trees_count b)
from_next s b n k past = grind (arith, nat_tests, past)

-- behind the last place there are none
from_end : (t : Trees) (k : ℕ) → trees_count t ≤ k → pointers_from t k ≡ []
from_end none k past = refl
from_end (tree s b n) k past = from_next s b n k (omega (arith, past)) ∙ from_end n (k - 1 - trees_count b) (omega (arith, past))

-- a place within what stands below a structure, or behind that
from_within : (s : Structure) (b n : Trees) (k : ℕ) → 0 < k → k ≤ trees_count b + 1 → pointers_from (tree s b n) k ≡ pointers_from b (k - 1) ++ pointers n
from_within s b n k some within = elim (cases_lt (trees_count b) k) [
  | inr inside ↦ from_below s b n k some inside
  | inl past ↦ from_next s b n k past ∙ from_start n (k - 1 - trees_count b) (omega (arith, past, within))
      ∙ ap (λ ps. ps ++ pointers n) (sym (from_end b (k - 1) (omega (arith, past))))
]

-- the pointer of the structure at a place, and those behind it
pub from_step : (d : Trees) (k : ℕ) → k < trees_count d → pointers_from d k ≡ own_pointer (structure_at d k).tag (structure_at d k).payload ++ pointers_from d (k + 1)
from_step none k h = absurd (omega arith)
from_step (tree s b n) k h =
    elim (place_cases s b n k h) [
      | inl first ↦
          let is : structure_at (tree s b n) k ≡ s = ap (structure_at (tree s b n)) first ∙ at_first s b n in
          from_start (tree s b n) k first
          ∙ ap (λ ps. own_pointer s.tag s.payload ++ ps) (ap (λ ps. ps ++ pointers n) (sym (from_start b (k + 1 - 1) (omega (arith, first)))) ∙ sym (from_within s b n (k + 1) (omega arith) (omega (arith, first))))
          ∙ ap (λ (x : Structure). own_pointer x.tag x.payload ++ pointers_from (tree s b n) (k + 1)) (sym is)
      | inr (inl w) ↦
          let is : structure_at (tree s b n) k ≡ structure_at b w.0 = ap (structure_at (tree s b n)) w.2 ∙ at_below s b n w.0 w.1 in
          let own = own_pointer (structure_at b w.0).tag (structure_at b w.0).payload in
          let at : k - 1 ≡ w.0 = omega (arith, w.2) in
          let next : w.0 + 1 ≡ k + 1 - 1 = omega (arith, w.2) in
          from_within s b n k (omega (arith, w.2)) (omega (arith, w.1, w.2))
          ∙ ap (λ (i : ℕ). pointers_from b i ++ pointers n) at
          ∙ ap (λ ps. ps ++ pointers n) (from_step b w.0 w.1)
          ∙ append_assoc own (pointers_from b (w.0 + 1)) (pointers n)
          ∙ ap (λ (i : ℕ). own ++ (pointers_from b i ++ pointers n)) next
          ∙ ap (λ ps. own ++ ps) (sym (from_within s b n (k + 1) (omega arith) (omega (arith, w.1, w.2))))
          ∙ ap (λ (x : Structure). own_pointer x.tag x.payload ++ pointers_from (tree s b n) (k + 1)) (sym is)
      | inr (inr w) ↦
          let is : structure_at (tree s b n) k ≡ structure_at n w.0 = ap (structure_at (tree s b n)) w.2 ∙ at_next s b n w.0 in
          let own = own_pointer (structure_at n w.0).tag (structure_at n w.0).payload in
          let at : k - 1 - trees_count b ≡ w.0 = omega (arith, w.2) in
          let next : w.0 + 1 ≡ k + 1 - 1 - trees_count b = omega (arith, w.2) in
          from_next s b n k (omega (arith, w.2))
          ∙ ap (pointers_from n) at
          ∙ from_step n w.0 w.1
          ∙ ap (λ (i : ℕ). own ++ pointers_from n i) next
          ∙ ap (λ ps. own ++ ps) (sym (from_next s b n (k + 1) (omega (arith, w.2))))
          ∙ ap (λ (x : Structure). own_pointer x.tag x.payload ++ pointers_from (tree s b n) (k + 1)) (sym is)
    ]

-- a structure with a pointer, and one without
pub from_pointer : (d : Trees) (k : ℕ) (name : Bytes) → k < trees_count d → (structure_at d k).payload ≡ Pointer name → pointers_from d k ≡ ((structure_at d k).tag, name) ∷ pointers_from d (k + 1)
from_pointer d k name h here = from_step d k h ∙ ap (λ (p : Payload). own_pointer (structure_at d k).tag p ++ pointers_from d (k + 1)) here

pub from_other : (d : Trees) (k : ℕ) → k < trees_count d → is_pointer (structure_at d k).payload ≡ false → pointers_from d k ≡ pointers_from d (k + 1)
from_other d k h denied = from_step d k h ∙ ap (λ ps. ps ++ pointers_from d (k + 1)) (none_own (structure_at d k).tag (structure_at d k).payload denied)
  where
    none_own : (tag : Bytes) (p : Payload) → is_pointer p ≡ false → own_pointer tag p ≡ []
    none_own tag Void e = refl
    none_own tag (Pointer name) e = absurd (let f : true ≡ false = e in cc)
    none_own tag (Text lines) e = refl

pub from_all : (d : Trees) → pointers_from d 0 ≡ pointers d
from_all d = from_start d 0 refl

-- the name that a pointer has
pub name_of : (p : Payload) → is_pointer p ≡ true → (name : Bytes) × (p ≡ Pointer name)
name_of Void e = absurd (let f : false ≡ true = e in cc)
name_of (Pointer name) e = (name, refl)
name_of (Text lines) e = absurd (let f : false ≡ true = e in cc)
