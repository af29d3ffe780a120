-- Identifiers and pointers, by places and by trees.
use Rattle.std.proofs.Common.{◌≡◌, ℕ, ◌+◌, ◌<◌, ◌==◌, true, false, Bool, ◌&&◌, sym, ◌∙◌, ap, refl, arith, List, [], ◌∷◌, Option, Some, None, ◌⊎◌, inl, inr, subst, rules}
use Rattle.std.specs.Bool.{Decides}
use Rattle.std.specs.Str.{bytes_eq}
use Rattle.std.proofs.lemmas.Slice.Eq.{bytes_eq-Decides}
use Rattle.std.proofs.lemmas.Bool.Decides.{nat_tests}
use Rattle.ged_line.specs.Bytes.{Bytes}
use Rattle.ged_line.specs.Names.{is_xref}
use Rattle.ged_tree.specs.Trees.{Structure, Trees, none, tree, trees_count}
use Rattle.ged_tree.specs.Documents.{is_document, are_at, is_structure_at}
use Rattle.ged_tree.specs.inner.DocumentParts.{is_xref_at}
use Rattle.ged_tree.specs.Places.{structure_at}
use Rattle.ged_tree.specs.Runs.{trees_between, IsRunOfTrees}
use Rattle.ged_link.specs.Links.{SomeTree, IsAmong, AreDistinct, xrefs, IsNamed}
use Rattle.ged_link.specs.inner.Identifiers.{with_xref}
use Rattle.ged_link.specs.LinkFaults.{HasXref, HasPointer, IsRepeated}
use Rattle.ged_link.proofs.PlaceCases.{place_cases, at_first, at_below, at_next, in_run}

pub both : (a b : Bool) → a && b ≡ true → (a ≡ true) × (b ≡ true)
both true b e = (refl, e)
both false b e = cc

-- a document's trees stand from level 0 on
pub document_level : (d : Trees) → is_document d ≡ true → are_at 0 d ≡ true
document_level none e = cc
document_level (tree s b n) e = (both _ _ (both _ _ e).1).0

pub level_parts : (l : ℕ) (s : Structure) (b n : Trees) → are_at l (tree s b n) ≡ true → (is_structure_at l s ≡ true) × (are_at (l + 1) b ≡ true) × (are_at l n ≡ true)
level_parts l s b n e = let h = both _ _ e in let k = both _ _ h.1 in (h.0, k.0, k.1)

no_xref : (l : ℕ) (x : Option Bytes) → is_xref_at (l + 1) x ≡ true → x ≡ None
no_xref l None e = refl
no_xref l (Some name) e = let z : (l + 1 == 0) ≡ false = grind (arith, nat_tests) in let f = (both _ _ e).0 in absurd (let g : false ≡ true = sym z ∙ f in cc)

no_empty_xref : (l : ℕ) (x : Option Bytes) → is_xref_at l x ≡ true → x ≡ Some [] → ⊥
no_empty_xref l None e is = absurd (cc)
no_empty_xref l (Some []) e is = absurd (let f : false ≡ true = (both (l == 0) (is_xref []) e).1 in cc)
no_empty_xref l (Some (b ∷ bs)) e is = absurd (cc)

-- no identifier is empty
pub never_empty : (l : ℕ) (s : Structure) → is_structure_at l s ≡ true → s.xref ≡ Some [] → ⊥
never_empty l s e = no_empty_xref l s.xref (both _ _ (both _ _ e).1).0

structure_unnamed : (l : ℕ) (s : Structure) → is_structure_at (l + 1) s ≡ true → s.xref ≡ None
structure_unnamed l s e = no_xref l s.xref (both _ _ (both _ _ e).1).0

-- no structure below a record has an identifier
pub unnamed : (l : ℕ) (t : Trees) (i : ℕ) → are_at (l + 1) t ≡ true → i < trees_count t → (structure_at t i).xref ≡ None
unnamed l none i e h = absurd (omega arith)
unnamed l (tree s b n) i e h =
    let parts = level_parts (l + 1) s b n e in
    elim (place_cases s b n i h) [
      | inl first ↦ rw (first, at_first s b n) (structure_unnamed l s parts.0)
      | inr (inl w) ↦ rw (w.2, at_below s b n w.0 w.1) (unnamed (l + 1) b w.0 parts.1 w.1)
      | inr (inr w) ↦ rw (w.2, at_next s b n w.0) (unnamed l n w.0 parts.2 w.1)
    ]

-- nor does one in a run of trees there
pub unnamed_run : (d : Trees) (l p q r : ℕ) → IsRunOfTrees d p q → are_at (l + 1) (trees_between d p q) ≡ true → (i : ℕ) → r ≡ p + i → r < q → (structure_at d r).xref ≡ None
unnamed_run d l p q r run e i h k =
    let t = trees_between d p q in
    let within : i < trees_count t = omega (arith, run.fills, h, k) in
    rw (h, in_run t d p q i refl run within) (unnamed l t i e within)

-- what is named is named at some place
pub named_at : (t : Trees) (name : Bytes) → IsNamed t name → (place : ℕ) × HasPointer t place name
named_at none name h = absurd h
named_at (tree s b n) name (inl here) = (0, (omega arith, rw (at_first s b n) here))
named_at (tree s b n) name (inr (inl below)) = let h = named_at b name below in (1 + h.0, (omega (arith, h.1.0), rw (at_below s b n h.0 h.1.0) h.1.1))
named_at (tree s b n) name (inr (inr next)) = let h = named_at n name next in (1 + trees_count b + h.0, (omega (arith, h.1.0), rw (at_next s b n h.0) h.1.1))

pub at_named : (t : Trees) (place : ℕ) (name : Bytes) → HasPointer t place name → IsNamed t name
at_named none place name h = absurd (omega (arith, h.0))
at_named (tree s b n) place name h = elim (place_cases s b n place h.0) [
  | inl first ↦ inl (rw (first, at_first s b n) at h.1)
  | inr (inl w) ↦ inr (inl (at_named b w.0 name (w.1, rw (w.2, at_below s b n w.0 w.1) at h.1)))
  | inr (inr w) ↦ inr (inr (at_named n w.0 name (w.1, rw (w.2, at_next s b n w.0) at h.1)))
]

among_with : (x : Option Bytes) (names : List Bytes) (name : Bytes) → IsAmong name (with_xref x names) → (x ≡ Some name) ⊎ IsAmong name names
among_with None names name h = inr h
among_with (Some other) names name (inl same) = inl (ap Some (sym same))
among_with (Some other) names name (inr rest) = inr rest

with_here : (x : Option Bytes) (names : List Bytes) (name : Bytes) → x ≡ Some name → IsAmong name (with_xref x names)
with_here None names name e = cc
with_here (Some other) names name e = inl (cc)

with_rest : (x : Option Bytes) (names : List Bytes) (name : Bytes) → IsAmong name names → IsAmong name (with_xref x names)
with_rest None names name h = h
with_rest (Some other) names name h = inr h

-- an identifier stands at some place
pub xref_at : (t : Trees) (name : Bytes) → IsAmong name (xrefs t) → (place : ℕ) × HasXref t place name
xref_at none name h = absurd h
xref_at (tree s b n) name h = elim (among_with s.xref (xrefs n) name h) [
  | inl here ↦ (0, (omega arith, rw (at_first s b n) here))
  | inr next ↦ (let k = xref_at n name next in (1 + trees_count b + k.0, (omega (arith, k.1.0), rw (at_next s b n k.0) k.1.1)))
]

pub at_xref : (t : Trees) → are_at 0 t ≡ true → (place : ℕ) (name : Bytes) → HasXref t place name → IsAmong name (xrefs t)
at_xref none e place name h = absurd (omega (arith, h.0))
at_xref (tree s b n) e place name h =
    let parts = level_parts 0 s b n e in
    elim (place_cases s b n place h.0) [
      | inl first ↦ with_here s.xref (xrefs n) name (rw (first, at_first s b n) at h.1)
      | inr (inl w) ↦ (let none_is = unnamed 0 b w.0 parts.1 w.1 in let some_is = rw (w.2, at_below s b n w.0 w.1) at h.1 in cc)
      | inr (inr w) ↦ with_rest s.xref (xrefs n) name (at_xref n parts.2 w.0 name (w.1, rw (w.2, at_next s b n w.0) at h.1))
    ]

-- the record at a place, by its identifier and its tag
pub tree_tag : (t : Trees) → are_at 0 t ≡ true → (place : ℕ) (name tag : Bytes) → HasXref t place name → (structure_at t place).tag ≡ tag → SomeTree (λ s below. (s.xref ≡ Some name) × (s.tag ≡ tag)) t
tree_tag none e place name tag h k = absurd (omega (arith, h.0))
tree_tag (tree s b n) e place name tag h k =
    let parts = level_parts 0 s b n e in
    elim (place_cases s b n place h.0) [
      | inl first ↦ inl (rw (first, at_first s b n) at h.1, rw (first, at_first s b n) at k)
      | inr (inl w) ↦ (let none_is = unnamed 0 b w.0 parts.1 w.1 in let some_is = rw (w.2, at_below s b n w.0 w.1) at h.1 in cc)
      | inr (inr w) ↦ inr (tree_tag n parts.2 w.0 name tag (w.1, rw (w.2, at_next s b n w.0) at h.1) (rw (w.2, at_next s b n w.0) at k))
    ]

pub tag_tree : (t : Trees) (name tag : Bytes) → SomeTree (λ s below. (s.xref ≡ Some name) × (s.tag ≡ tag)) t → (place : ℕ) × HasXref t place name × ((structure_at t place).tag ≡ tag)
tag_tree none name tag h = absurd h
tag_tree (tree s b n) name tag (inl h) = (0, (omega arith, rw (at_first s b n) h.0), rw (at_first s b n) h.1)
tag_tree (tree s b n) name tag (inr h) =
    let k = tag_tree n name tag h in
    (1 + trees_count b + k.0, (omega (arith, k.1.0), rw (at_next s b n k.0) k.1.1), rw (at_next s b n k.0) k.2)

distinct_rest : (x : Option Bytes) (names : List Bytes) → AreDistinct (with_xref x names) → AreDistinct names
distinct_rest None names h = h
distinct_rest (Some name) names h = h.1

distinct_here : (x : Option Bytes) (names : List Bytes) (name : Bytes) → AreDistinct (with_xref x names) → x ≡ Some name → IsAmong name names → ⊥
distinct_here None names name h e k = cc
distinct_here (Some other) names name h e k = h.0 (let f : name ≡ other = cc in subst (λ x. IsAmong x names) f k)

-- distinct identifiers stand at one place each
pub one_xref : (t : Trees) → are_at 0 t ≡ true → AreDistinct (xrefs t) → (p q : ℕ) (name : Bytes) → HasXref t p name → HasXref t q name → p ≡ q
one_xref none e d p q name h k = absurd (omega (arith, h.0))
one_xref (tree s b n) e d p q name h k =
    let parts = level_parts 0 s b n e in
    elim (place_cases s b n p h.0) [
      | inr (inl w) ↦ (let none_is = unnamed 0 b w.0 parts.1 w.1 in let some_is = rw (w.2, at_below s b n w.0 w.1) at h.1 in cc)
      | inl first ↦ (let here = rw (first, at_first s b n) at h.1 in elim (place_cases s b n q k.0) [
        | inl second ↦ first ∙ sym second
        | inr (inl v) ↦ (let none_is = unnamed 0 b v.0 parts.1 v.1 in let some_is = rw (v.2, at_below s b n v.0 v.1) at k.1 in cc)
        | inr (inr v) ↦ absurd (distinct_here s.xref (xrefs n) name d here (at_xref n parts.2 v.0 name (v.1, rw (v.2, at_next s b n v.0) at k.1)))
      ])
      | inr (inr w) ↦ (let there : HasXref n w.0 name = (w.1, rw (w.2, at_next s b n w.0) at h.1) in elim (place_cases s b n q k.0) [
        | inl second ↦ absurd (distinct_here s.xref (xrefs n) name d (rw (second, at_first s b n) at k.1) (at_xref n parts.2 w.0 name there))
        | inr (inl v) ↦ (let none_is = unnamed 0 b v.0 parts.1 v.1 in let some_is = rw (v.2, at_below s b n v.0 v.1) at k.1 in cc)
        | inr (inr v) ↦ (let same = one_xref n parts.2 (distinct_rest s.xref (xrefs n) d) w.0 v.0 name there (v.1, rw (v.2, at_next s b n v.0) at k.1) in omega (arith, same, w.2, v.2))
      ])
    ]

pub distinct_unrepeated : (t : Trees) → are_at 0 t ≡ true → AreDistinct (xrefs t) → (place : ℕ) → IsRepeated t place → ⊥
distinct_unrepeated t e d place h = let same = one_xref t e d place h.1 h.0 h.2 h.3 in absurd (omega (arith, same, h.4))

repeated_next : (s : Structure) (b n : Trees) (place : ℕ) → IsRepeated n place → IsRepeated (tree s b n) (1 + trees_count b + place)
repeated_next s b n place h =
    (h.0, 1 + trees_count b + h.1, (omega (arith, h.2.0), rw (at_next s b n place) h.2.1), (omega (arith, h.3.0), rw (at_next s b n h.1) h.3.1), omega (arith, h.4))

distinct_with : (x : Option Bytes) (names : List Bytes) → ((name : Bytes) → x ≡ Some name → IsAmong name names → ⊥) → AreDistinct names → AreDistinct (with_xref x names)
distinct_with None names h d = d
distinct_with (Some name) names h d = (h name refl, d)

pub unrepeated_distinct : (t : Trees) → ((place : ℕ) → IsRepeated t place → ⊥) → AreDistinct (xrefs t)
unrepeated_distinct none h = tt
unrepeated_distinct (tree s b n) h =
    distinct_with s.xref (xrefs n)
    (λ name here there. let k = xref_at n name there in
    h (1 + trees_count b + k.0) (name, 0, (omega (arith, k.1.0), rw (at_next s b n k.0) k.1.1), (omega arith, rw (at_first s b n) here), omega arith))
    (unrepeated_distinct n (λ place r. h (1 + trees_count b + place) (repeated_next s b n place r)))

pub same_or_other : (a b : Bytes) → (a ≡ b) ⊎ (a ≡ b → ⊥)
same_or_other a b = go (bytes_eq a b) (bytes_eq-Decides a b)
  where
    go : (same : Bool) → Decides same (a ≡ b) → (a ≡ b) ⊎ (a ≡ b → ⊥)
    go true h = inl (search rules)
    go false h = inr (search rules)

pub among_or_not : (name : Bytes) (names : List Bytes) → IsAmong name names ⊎ (IsAmong name names → ⊥)
among_or_not name [] = inr (λ h. h)
among_or_not name (x ∷ xs) = elim (same_or_other name x) [
  | inl same ↦ inl (inl same)
  | inr other ↦ elim (among_or_not name xs) [
    | inl rest ↦ inl (inr rest)
    | inr not_rest ↦ inr (λ h. elim h [ inl e ↦ other e | inr r ↦ not_rest r ])
  ]
]
