-- A document's cross-references are resolved, or the first fault of them is found.
use Rattle.std.proofs.Common.{◌≡◌, ℕ, zero, suc, ◌<◌, inl, inr, sym, ◌∙◌, ap, arith, refl, Option, Some, None}
use Rattle.std.specs.Prelude.{◌⊎◌}
use Rattle.std.proofs.lemmas.Bool.{cases_lt}
use Rattle.ged_line.specs.Bytes.{Bytes}
use Rattle.ged_tree.specs.Trees.{Trees, trees_count}
use Rattle.ged_tree.specs.Places.{structure_at, line_at}
use Rattle.ged_tree.specs.declared.payload.Payload.{Payload}
use Rattle.ged_tree.specs.declared.payload.Payload.TheVariants.{Void, Pointer, Text}
use Rattle.ged_link.specs.declared.fault.LinkFault.TheVariants.{Duplicate, Dangling}
use Rattle.ged_link.specs.LinkFaults.{HasXref, IsLowest, IsRepeated, IsDangling}
use Rattle.ged_link.specs.ResolvedLaws.{ResolvedOrFault}
use Rattle.ged_link.proofs.LinkLemmas.{same_or_other}
use Rattle.ged_link.proofs.LawLemmas.{resolved_of}

-- it is so or it is not
abbrev pub IsDecided : Type 0 → Type 0
IsDecided P = P ⊎ (P → ⊥)

pub both_decided : {P Q : Type 0} → IsDecided P → IsDecided Q → IsDecided (P × Q)
both_decided (inl p) (inl q) = inl (p, q)
both_decided (inl p) (inr n) = inr (λ h. n h.1)
both_decided (inr n) q = inr (λ h. n h.0)

pub one_decided : {P Q : Type 0} → IsDecided P → IsDecided Q → IsDecided (P ⊎ Q)
one_decided (inl p) q = inl (inl p)
one_decided (inr n) (inl q) = inl (inr q)
one_decided (inr n) (inr m) = inr (λ h. elim h [ inl p ↦ n p | inr q ↦ m q ])

pub below_decided : (n m : ℕ) → IsDecided (n < m)
below_decided n m = elim (cases_lt n m) [ inl below ↦ inl below | inr above ↦ inr (λ h. omega (arith, above, h)) ]

pub name_decided : (o : Option Bytes) (name : Bytes) → IsDecided (o ≡ Some name)
name_decided None name = inr (λ h. cc)
name_decided (Some other) name = elim (same_or_other other name) [ inl same ↦ inl (ap Some same) | inr apart ↦ inr (λ h. apart (some_same other name h)) ]
  where
    some_same : (a b : Bytes) → Some a ≡ Some b → a ≡ b
    some_same a b e = cc

-- the lowest number below a bound that has P, or that none below it has P
pub lowest_or_none : (P : ℕ → Type 0) → ((n : ℕ) → IsDecided (P n)) → (bound : ℕ) → ((n : ℕ) × IsLowest P n) ⊎ ((n : ℕ) → n < bound → P n → ⊥)
lowest_or_none P decided zero = inr (λ n below h. omega (arith, below))
lowest_or_none P decided (suc bound) = go (lowest_or_none P decided bound) (decided bound)
  where
    go : ((n : ℕ) × IsLowest P n) ⊎ ((n : ℕ) → n < bound → P n → ⊥) → IsDecided (P bound)
        → ((n : ℕ) × IsLowest P n) ⊎ ((n : ℕ) → n < suc bound → P n → ⊥)
    go (inl low) last = inl low
    go (inr none) (inl h) = inl (bound, (h, λ other k. elim (cases_lt other bound) [ inl below ↦ absurd (none other below k) | inr above ↦ above ]))
    go (inr none) (inr last) = inr (λ n below h. elim (cases_lt n bound) [
      | inl lower ↦ none n lower h
      | inr above ↦ (let same : n ≡ bound = omega (arith, below, above) in last (rw same at h))
    ])

-- some number below a bound has P, or none has
pub some_or_none : (P : ℕ → Type 0) → ((n : ℕ) → IsDecided (P n)) → (bound : ℕ) → ((n : ℕ) → P n → n < bound) → IsDecided ((n : ℕ) × P n)
some_or_none P decided bound inside = elim (lowest_or_none P decided bound) [
  | inl low ↦ inl (low.0, low.1.0)
  | inr none ↦ inr (λ h. none h.0 (inside h.0 h.1) h.1)
]

module _ (d : Trees) where
  xref_decided : (place : ℕ) (name : Bytes) → IsDecided (HasXref d place name)
  xref_decided place name = both_decided (below_decided place (trees_count d)) (name_decided (structure_at d place).xref name)

  abbrev HasEarlier : ℕ → Bytes → ℕ → Type 0
  HasEarlier place name earlier = HasXref d earlier name × (earlier < place)

  repeated_decided : (place : ℕ) → IsDecided (IsRepeated d place)
  repeated_decided place = go (structure_at d place).xref refl
    where
      one_name : (a b : Bytes) → Some a ≡ Some b → a ≡ b
      one_name a b e = cc

      named : (name : Bytes) → (structure_at d place).xref ≡ Some name → IsDecided (place < trees_count d) → IsDecided ((earlier : ℕ) × HasEarlier place name earlier) → IsDecided (IsRepeated d place)
      named name is (inr outside) found = inr (λ h. outside h.2.0)
      named name is (inl inside) (inl found) = inl (name, found.0, (inside, is), found.1.0, found.1.1)
      named name is (inl inside) (inr none) = inr (λ h.
          let same : h.0 ≡ name = one_name h.0 name (sym h.2.1 ∙ is) in
          none (h.1, ((h.3.0, h.3.1 ∙ ap Some same), h.4)))

      go : (o : Option Bytes) → (structure_at d place).xref ≡ o → IsDecided (IsRepeated d place)
      go None is = inr (λ h. none_some h.0 (sym is ∙ h.2.1))
        where
          none_some : (a : Bytes) → ◌≡◌ {A = Option Bytes} None (Some a) → ⊥
          none_some a e = cc
      go (Some name) is = named name is (below_decided place (trees_count d))
          (some_or_none (HasEarlier place name) (λ earlier. both_decided (xref_decided earlier name) (below_decided earlier place)) (trees_count d) (λ earlier h. h.0.0))

  dangling_decided : (place : ℕ) → IsDecided (IsDangling d place)
  dangling_decided place = go (structure_at d place).payload refl
    where
      one_name : (a b : Bytes) → Pointer a ≡ Pointer b → a ≡ b
      one_name a b e = cc

      named : (name : Bytes) → (structure_at d place).payload ≡ Pointer name → IsDecided (place < trees_count d) → IsDecided ((other : ℕ) × HasXref d other name) → IsDecided (IsDangling d place)
      named name is (inr outside) found = inr (λ h. outside h.1.0)
      named name is (inl inside) (inl found) = inr (λ h.
          let same : name ≡ h.0 = one_name name h.0 (sym is ∙ h.1.1) in
          h.2 found.0 (found.1.0, found.1.1 ∙ ap Some same))
      named name is (inl inside) (inr none) = inl (name, (inside, is), λ other h. none (other, h))

      void_pointer : (a : Bytes) → Void ≡ Pointer a → ⊥
      void_pointer a e = cc

      go : (p : Payload) → (structure_at d place).payload ≡ p → IsDecided (IsDangling d place)
      go Void is = inr (λ h. void_pointer h.0 (sym is ∙ h.1.1))
      go (Text lines) is = inr (λ h. text_pointer h.0 (sym is ∙ h.1.1))
        where
          text_pointer : (a : Bytes) → Text lines ≡ Pointer a → ⊥
          text_pointer a e = cc
      go (Pointer name) is = named name is (below_decided place (trees_count d)) (some_or_none (λ other. HasXref d other name) (λ other. xref_decided other name) (trees_count d) (λ other h. h.0))

  unrepeated : ((n : ℕ) → n < trees_count d → IsRepeated d n → ⊥) → (n : ℕ) → IsRepeated d n → ⊥
  unrepeated none n h = none n h.2.0 h

  undangling : ((n : ℕ) → n < trees_count d → IsDangling d n → ⊥) → (n : ℕ) → IsDangling d n → ⊥
  undangling none n h = none n h.1.0 h

pub resolved_or_fault : ResolvedOrFault
resolved_or_fault d doc = elim (lowest_or_none (IsRepeated d) (repeated_decided d) (trees_count d)) [
  | inl low ↦ inr (Duplicate (line_at 1 d low.0), (low.0, low.1, refl))
  | inr none ↦ elim (lowest_or_none (IsDangling d) (dangling_decided d) (trees_count d)) [
    | inl low ↦ inr (Dangling (line_at 1 d low.0), (unrepeated d none, (low.0, low.1, refl)))
    | inr straight ↦ inl (resolved_of d doc (unrepeated d none) (undangling d straight))
  ]
]
