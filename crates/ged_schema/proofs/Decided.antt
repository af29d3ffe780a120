-- What is so or is not, and tests taken apart.
use Rattle.std.proofs.Common.{◌≡◌, ℕ, zero, suc, ◌<◌, Bool, true, false, ◌&&◌, List, [], ◌∷◌, inl, inr, ap, arith, refl, Option, Some, None}
use Rattle.std.specs.Prelude.{◌⊎◌}
use Rattle.std.specs.Str.{bytes_eq}
use Rattle.std.proofs.lemmas.Bool.{cases_lt, false≢true}
use Rattle.std.proofs.lemmas.Slice.Eq.{bytes_eq-Decides}
use Rattle.ged_line.specs.Bytes.{Bytes}
use Rattle.ged_link.specs.Links.{IsAmong}
use Rattle.ged_link.specs.LinkFaults.{IsLowest}

pub bool_cases : (b : Bool) → (b ≡ true) ⊎ (b ≡ false)
bool_cases true = inl refl
bool_cases false = inr refl

pub and_left : (a b : Bool) → (a && b) ≡ true → a ≡ true
and_left true b h = refl
and_left false b h = cc

pub and_right : (a b : Bool) → (a && b) ≡ true → b ≡ true
and_right true b h = h
and_right false b h = cc

-- it is so or it is not
abbrev pub IsDecided : Type 0 → Type 0
IsDecided P = P ⊎ (P → ⊥)

pub true_decided : (b : Bool) → IsDecided (b ≡ true)
true_decided true = inl refl
true_decided false = inr (λ h. false≢true h)

pub both_decided : {P Q : Type 0} → IsDecided P → IsDecided Q → IsDecided (P × Q)
both_decided (inl p) (inl q) = inl (p, q)
both_decided (inl p) (inr n) = inr (λ h. n h.1)
both_decided (inr n) q = inr (λ h. n h.0)

pub one_decided : {P Q : Type 0} → IsDecided P → IsDecided Q → IsDecided (P ⊎ Q)
one_decided (inl p) q = inl (inl p)
one_decided (inr n) (inl q) = inl (inr q)
one_decided (inr n) (inr m) = inr (λ h. elim h [ inl p ↦ n p | inr q ↦ m q ])

pub same_or_other : (a b : Bytes) → (a ≡ b) ⊎ (a ≡ b → ⊥)
same_or_other a b = elim (bool_cases (bytes_eq a b)) [
  | inl same ↦ inl ((bytes_eq-Decides a b).0 same)
  | inr other ↦ inr (λ e. let same : bytes_eq a b ≡ true = (bytes_eq-Decides a b).1 e in cc)
]

pub among_or_not : (name : Bytes) (names : List Bytes) → IsAmong name names ⊎ (IsAmong name names → ⊥)
among_or_not name [] = inr (λ h. h)
among_or_not name (x ∷ xs) = elim (same_or_other name x) [
  | inl same ↦ inl (inl same)
  | inr other ↦ elim (among_or_not name xs) [
    | inl rest ↦ inl (inr rest)
    | inr not_rest ↦ inr (λ h. elim h [ inl e ↦ other e | inr r ↦ not_rest r ])
  ]
]

pub name_decided : (o : Option Bytes) (name : Bytes) → IsDecided (o ≡ Some name)
name_decided None name = inr (λ h. cc)
name_decided (Some other) name = elim (same_or_other other name) [ inl same ↦ inl (ap Some same) | inr apart ↦ inr (λ h. apart (some_same other name h)) ]
  where
    some_same : (a b : Bytes) → Some a ≡ Some b → a ≡ b
    some_same a b e = cc

-- the lowest number below a bound that has P, or that none below it has P
pub lowest_or_none : (P : ℕ → Type 0) → ((n : ℕ) → IsDecided (P n)) → (bound : ℕ) → ((n : ℕ) × IsLowest P n) ⊎ ((n : ℕ) → n < bound → P n → ⊥)
lowest_or_none P decided zero = inr (λ n below h. omega (arith, below))
lowest_or_none P decided (suc bound) = go (lowest_or_none P decided bound) (decided bound)
  where
    go : ((n : ℕ) × IsLowest P n) ⊎ ((n : ℕ) → n < bound → P n → ⊥) → IsDecided (P bound)
        → ((n : ℕ) × IsLowest P n) ⊎ ((n : ℕ) → n < suc bound → P n → ⊥)
    go (inl low) last = inl low
    go (inr none) (inl h) = inl (bound, (h, λ other k. elim (cases_lt other bound) [ inl below ↦ absurd (none other below k) | inr above ↦ above ]))
    go (inr none) (inr last) = inr (λ n below h. elim (cases_lt n bound) [
      | inl lower ↦ none n lower h
      | inr above ↦ (let same : n ≡ bound = omega (arith, below, above) in last (rw same at h))
    ])
