-- A document is as the structure tables ask, or the first fault of it is found.
use Rattle.std.proofs.Common.{◌≡◌, ℕ, zero, suc, ◌+◌, ◌<◌, ◌≤◌, refl, arith, List, [], ◌∷◌, Option, Some, None, inl, inr}
use Rattle.std.specs.Prelude.{◌⊎◌}
use Rattle.std.specs.List.{AllByRecursion}
use Rattle.std.specs.Str.{bytes_eq}
use Rattle.std.proofs.lemmas.Bool.{cases_lt}
use Rattle.std.proofs.lemmas.Slice.Eq.{bytes_eq-Decides}
use Rattle.ged_line.specs.Bytes.{Bytes}
use Rattle.ged_tree.specs.declared.payload.Payload.{Payload}
use Rattle.ged_tree.specs.declared.payload.Payload.TheVariants as payloads
use Rattle.ged_tree.specs.Trees.{Structure, Trees, none, tree, trees_count}
use Rattle.ged_link.specs.Links.{SomeTree}
use Rattle.ged_schema.proofs.Decided.{bool_cases, same_or_other, IsDecided, both_decided, one_decided, name_decided}
use Rattle.ged_schema.specs.declared.context.Context.{Context}
use Rattle.ged_schema.specs.declared.fault.FaultPlace.{FaultPlace}
use Rattle.ged_schema.specs.declared.fault.SchemaFault.TheVariants.{WrongTarget, TooMany, Missing}
use Rattle.ged_schema.specs.Rows.{Row}
use Rattle.ged_schema.specs.Tables.{rows, row, context_below}
use Rattle.ged_value.specs.Kinds.{target}
use Rattle.ged_schema.specs.Checked.{PointsRight, count_of, CountsRight, MeetsRow, AreChecked}
use Rattle.ged_schema.specs.inner.Lookups.{IsRecordNamed}
use Rattle.ged_schema.specs.Faults.{fault_at, payload_fault, StandsAfter, CountFault, FirstCountFault, OwnFault, FirstFault}
use Rattle.ged_schema.proofs.Runs.{count_same, count_other}
use Rattle.ged_schema.proofs.Fitting.{kind_decided}

pub some_tree_decided : (P : Structure → Trees → Type 0) → ((s : Structure) (below : Trees) → IsDecided (P s below)) → (t : Trees) → IsDecided (SomeTree P t)
some_tree_decided P decided none = inr (λ h. h)
some_tree_decided P decided (tree s below next) = one_decided (decided s below) (some_tree_decided P decided next)

points_decided : (d : Trees) (wanted : Option Bytes) (payload : Payload) → IsDecided (PointsRight d wanted payload)
points_decided d None payload = inl tt
points_decided d (Some tag) payloads.Void = inl tt
points_decided d (Some tag) (payloads.Text lines) = inl tt
points_decided d (Some tag) (payloads.Pointer name) =
    some_tree_decided (IsRecordNamed name tag) (λ s below. both_decided (name_decided s.xref name) (same_or_other s.tag tag)) d

-- where more trees have the tag than a number, one stands behind so many
stands_after : (tag : Bytes) (n place : ℕ) (t : Trees) → n < count_of tag t → (at : ℕ) × StandsAfter tag n place t at
stands_after tag n place none more = absurd (omega (arith, more))
stands_after tag zero place (tree s below next) more = elim (bool_cases (bytes_eq s.tag tag)) [
  | inl same ↦ (place, inl ((bytes_eq-Decides s.tag tag).0 same, refl))
  | inr other ↦ (
      let count = count_other tag (tree s below next) s below next refl other in
      let later = stands_after tag zero (place + 1 + trees_count below) next (omega (arith, more, count)) in
      (later.0, inr ((λ e. let same : bytes_eq s.tag tag ≡ _ = (bytes_eq-Decides s.tag tag).1 e in cc), later.1)))
]
stands_after tag (suc n) place (tree s below next) more = elim (bool_cases (bytes_eq s.tag tag)) [
  | inl same ↦ (
      let tags : s.tag ≡ tag = (bytes_eq-Decides s.tag tag).0 same in
      let count = count_same tag (tree s below next) s below next refl tags in
      let later = stands_after tag n (place + 1 + trees_count below) next (omega (arith, more, count)) in
      (later.0, inl (tags, later.1)))
  | inr other ↦ (
      let count = count_other tag (tree s below next) s below next refl other in
      let later = stands_after tag (suc n) (place + 1 + trees_count below) next (omega (arith, more, count)) in
      (later.0, inr ((λ e. let same : bytes_eq s.tag tag ≡ _ = (bytes_eq-Decides s.tag tag).1 e in cc), later.1)))
]

-- what is right, or the fault of it
abbrev IsRightOr : Type 0 → (FaultPlace → Type 0) → Type 0
IsRightOr P Fault = P ⊎ ((f : FaultPlace) × Fault f)

count_right : (place : ℕ) (below : Trees) (r : Row) → IsRightOr (CountsRight below r) (CountFault place below r)
count_right place below r = elim (cases_lt (count_of r.tag below) r.least) [
  | inl few ↦ inr (fault_at place Missing, inl (few, refl))
  | inr enough ↦ go enough r.most refl
]
  where
    go : r.least ≤ count_of r.tag below → (most : Option ℕ) → r.most ≡ most → IsRightOr (CountsRight below r) (CountFault place below r)
    go enough None is = inl (enough, rw is tt)
    go enough (Some most) is = elim (cases_lt most (count_of r.tag below)) [
      | inl more ↦ (let at = stands_after r.tag most (place + 1) below more in inr (fault_at at.0 TooMany, inr (enough, at.0, rw is at.1, refl)))
      | inr few ↦ inl (enough, rw is few)
    ]

counts_right : (place : ℕ) (below : Trees) (rs : List Row) → IsRightOr (AllByRecursion (CountsRight below) rs) (FirstCountFault place below rs)
counts_right place below [] = inl tt
counts_right place below (r ∷ rs) = elim (count_right place below r) [
  | inr fault ↦ inr (fault.0, inl fault.1)
  | inl right ↦ elim (counts_right place below rs) [
    | inr fault ↦ inr (fault.0, inr (right, fault.1))
    | inl others ↦ inl (right, others)
  ]
]

meets_row : (d : Trees) (place : ℕ) (o : Option Row) (payload : Payload) (below : Trees) → IsRightOr (MeetsRow d o payload below) (OwnFault d place o payload below)
meets_row d place None payload below = inl tt
meets_row d place (Some r) payload below = elim (kind_decided r.kind payload) [
  | inr other ↦ inr (fault_at place (payload_fault r.kind), inl (other, refl))
  | inl fits ↦ elim (points_decided d (target r.kind) payload) [
    | inr other ↦ inr (fault_at place WrongTarget, inr (fits, inl (other, refl)))
    | inl points ↦ elim (counts_right place below (rows r.below)) [
      | inr fault ↦ inr (fault.0, inr (fits, inr (points, fault.1)))
      | inl right ↦ inl (fits, points, right)
    ]
  ]
]

pub are_checked : (d : Trees) (c : Context) (place : ℕ) (t : Trees) → IsRightOr (AreChecked d c t) (FirstFault d c place t)
are_checked d c place none = inl tt
are_checked d c place (tree s below next) = elim (meets_row d place (row c s.tag) s.payload below) [
  | inr fault ↦ inr (fault.0, inl fault.1)
  | inl meets ↦ elim (are_checked d (context_below c s.tag) (place + 1) below) [
    | inr fault ↦ inr (fault.0, inr (meets, inl fault.1))
    | inl under ↦ elim (are_checked d c (place + 1 + trees_count below) next) [
      | inr fault ↦ inr (fault.0, inr (meets, inr (under, fault.1)))
      | inl rest ↦ inl (meets, under, rest)
    ]
  ]
]
