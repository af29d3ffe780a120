-- Marks of the records that pointers name.
use Rattle.std.proofs.Common.{◌≡◌, ◌≢◌, ℕ, ◌+◌, ◌<◌, ◌≤◌, Bool, true, false, Option, Some, None, List, ◌⊎◌, inl, inr, length, refl, sym, subst, ◌∙◌, arith, get_or-set_other, replicate, slice_index_or, slice_set, ap, option_map}
use Rattle.std.proofs.Math.Nat.{eq-or-lt_of_le}
use Rattle.std.proofs.lemmas.Bool.{cases_lt}
use Rattle.std.proofs.lemmas.Grind.{get_or-set_at}
use Rattle.std.proofs.lemmas.List.{get_or-replicate, get_or_past, length-replicate}
use Rattle.std.proofs.lemmas.Option.{slice_get_within}
use Rattle.ged_line.specs.Bytes.{Bytes}
use Rattle.ged_tree.specs.Trees.{Trees, trees_count, records_of}
use Rattle.ged_tree.specs.Places.{structure_at}
use Rattle.ged_tree.specs.declared.payload.Payload.{Payload}
use Rattle.ged_tree.specs.declared.payload.Payload.TheVariants.{Void, Pointer, Text}
use Rattle.ged_tree.specs.Views.{is_pointer}
use Rattle.ged_link.specs.declared.index.RecordPlace.{RecordPlace}
use Rattle.ged_link.specs.Links.{identifiers}
use Rattle.ged_link.specs.LinkFaults.{HasXref, HasPointer, IsDangling, IsLowest}
use Rattle.ged_link.specs.declared.names.Names.{Names}
use Rattle.ged_link.specs.Indexes.{found_in, AreRecords, number_in}
use Rattle.ged_link.specs.inner.LinkWalks.{target}
use Rattle.ged_link.specs.inner.Resolving.{AreUsedBefore, NoneDanglesBefore, AreUsed}
use Rattle.ged_link.proofs.LinkLemmas.{named_at, at_named}

same_or_not : (k n : ℕ) → (k ≡ n) ⊎ (k ≢ n)
same_or_not k n = elim (cases_lt k n) [
  | inl below ↦ inr (λ e. omega arith)
  | inr above ↦ elim (eq-or-lt_of_le above) [ inl e ↦ inl (sym e) | inr more ↦ inr (λ e. omega arith) ]
]

pointer_name : (a b : Bytes) → Pointer a ≡ Pointer b → a ≡ b
pointer_name a b e = cc

before_cases : (d : Trees) (place other : ℕ) (name : Bytes) → (other < place + 1) × HasPointer d other name → ((other < place) × HasPointer d other name) ⊎ HasPointer d place name
before_cases d place other name h = elim (cases_lt other place) [
  | inl before ↦ inl (before, h.1)
  | inr past ↦ (let e : other ≡ place = omega (arith, h.0) in inr (rw e at h.1))
]

-- a name has a place exactly where it has a number
number_place : (o : Option RecordPlace) (number : ℕ) → option_map (λ r. r.number) o ≡ Some number → (place : ℕ) × (option_map (λ r. r.place) o ≡ Some place)
number_place None number e = cc
number_place (Some found) number e = (found.place, refl)

no_place : (o : Option RecordPlace) → option_map (λ r. r.number) o ≡ None → option_map (λ r. r.place) o ≡ None
no_place None e = refl
no_place (Some found) e = cc

-- a payload that is told to be no pointer
pub told_not_pointer : (p : Payload) → is_pointer p ≡ false → (name : Bytes) → p ≡ Pointer name → ⊥
told_not_pointer p denied name h = absurd (let f : true ≡ false = sym (ap is_pointer h) ∙ denied in cc)

pub told_no_target : (find : Bytes → Option ℕ) (p : Payload) → is_pointer p ≡ false → target find p ≡ None
told_no_target find Void denied = refl
told_no_target find (Pointer name) denied = absurd (let f : true ≡ false = denied in cc)
told_no_target find (Text lines) denied = refl

module _ (d : Trees) (place : ℕ) (within : place < trees_count d) where
  -- a structure without a pointer changes nothing
  pub used_kept : (used : List Bool) → ((name : Bytes) → (structure_at d place).payload ≡ Pointer name → ⊥) → AreUsedBefore d place used → AreUsedBefore d (place + 1) used
  used_kept used other are number = (
    λ e. let h = (are number).0 e in (h.0, h.1, (h.2.0, omega (arith, h.2.1), h.2.2)),
    λ h. elim (before_cases d place h.2.0 h.0 (h.2.1, h.2.2)) [
      | inl before ↦ (are number).1 (h.0, h.1, (h.2.0, before.0, before.1))
      | inr here ↦ absurd (other h.0 here.1)
    ],
  )

  pub dangles_kept : ((name : Bytes) → (structure_at d place).payload ≡ Pointer name → ⊥) → NoneDanglesBefore d place → NoneDanglesBefore d (place + 1)
  dangles_kept other none k before h = elim (before_cases d place k h.0 (before, h.1)) [
    | inl earlier ↦ none k earlier.0 h
    | inr here ↦ other h.0 here.1
  ]

  module _ (records : Names) (name : Bytes) (are : AreRecords d records) (here : (structure_at d place).payload ≡ Pointer name) where
    -- one more pointer marks the record that it names
    pub used_more : (used : List Bool) (found : ℕ) → number_in records name ≡ Some found → found < length used → AreUsedBefore d place used → AreUsedBefore d (place + 1) (slice_set used found true)
    used_more used found named inside before number = (
      λ e. elim (same_or_not number found) [
        | inl same ↦ (name, (rw same ((are.numbered name found).0 named)), (place, omega arith, (within, here)))
        | inr other ↦ (let h = (before number).0 (sym (get_or-set_other used found number true false other) ∙ e) in (h.0, h.1, (h.2.0, omega (arith, h.2.1), h.2.2)))
      ],
      λ h. elim (same_or_not number found) [
        | inl same ↦ get_or-set_at used found number true false same inside
        | inr other ↦ get_or-set_other used found number true false other ∙ elim (before_cases d place h.2.0 h.0 (h.2.1, h.2.2)) [
          | inl earlier ↦ (before number).1 (h.0, h.1, (h.2.0, earlier.0, earlier.1))
          | inr now ↦ (
              let same : h.0 ≡ name = pointer_name h.0 name (sym now.1 ∙ here) in
              let at_number : number_in records name ≡ Some number = (are.numbered name number).1 (rw same at h.1) in
              absurd (other (let e : Some number ≡ Some found = sym at_number ∙ named in cc)))
        ]
      ],
    )

    pub dangles_more : (number : ℕ) → number_in records name ≡ Some number → NoneDanglesBefore d place → NoneDanglesBefore d (place + 1)
    dangles_more number named none k before h = elim (before_cases d place k h.0 (before, h.1)) [
      | inl earlier ↦ none k earlier.0 h
      | inr now ↦ (
          let same : h.0 ≡ name = pointer_name h.0 name (sym now.1 ∙ here) in
          let at_place = number_place (found_in records name) number named in
          h.2 at_place.0 (subst (HasXref d at_place.0) (sym same) ((are.placed name at_place.0).0 at_place.1)))
    ]

    pub first_dangling : number_in records name ≡ None → NoneDanglesBefore d place → IsLowest (IsDangling d) place
    first_dangling missing none = (
      (name, (within, here), λ other h. let e = (are.placed name other).1 h in let f : None ≡ Some other = sym (no_place (found_in records name) missing) ∙ e in cc),
      λ other h. elim (cases_lt other place) [ inl earlier ↦ absurd (none other earlier h) | inr past ↦ past ],
    )

pub number_inside : (d : Trees) (records : Names) (name : Bytes) (number : ℕ) → AreRecords d records → number_in records name ≡ Some number → number < length (identifiers (records_of d))
number_inside d records name number are e = slice_get_within (identifiers (records_of d)) number (Some name) ((are.numbered name number).0 e)

-- at first no record is marked
pub used_none : (d : Trees) (used : List Bool) (count : ℕ) → used ≡ replicate count false → AreUsedBefore d 0 used
used_none d used count are number = (
  λ e. absurd (let f : false ≡ true = sym (ap (λ (marks : List Bool). slice_index_or marks number false) are ∙ unmarked) ∙ e in cc),
  λ h. absurd (let f = h.2.1 in omega (arith, f)),
)
  where
    unmarked : slice_index_or (replicate count false) number false ≡ false
    unmarked = elim (cases_lt number count) [
      | inl within ↦ get_or-replicate count number false false within
      | inr past ↦ get_or_past (replicate count false) number false (subst (λ (n : ℕ). n ≤ number) (sym (length-replicate count false)) past)
    ]

-- all pointers are gone through
pub used_all : (d : Trees) (place : ℕ) (used : List Bool) → place ≡ trees_count d → AreUsedBefore d place used → AreUsed d used
used_all d place used all are number = (
  λ e. let h = (are number).0 e in (h.0, h.1, at_named d h.2.0 h.0 h.2.2),
  λ h. let there = named_at d h.0 h.2 in (are number).1 (h.0, h.1, (there.0, omega (arith, there.1.0, all), there.1)),
)

pub dangles_all : (d : Trees) (place : ℕ) → place ≡ trees_count d → NoneDanglesBefore d place → (other : ℕ) → IsDangling d other → ⊥
dangles_all d place all none other h = none other (omega (arith, h.1.0, all)) h
