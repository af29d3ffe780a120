-- The sizes of closed structures stay as more structures are added.
use Rattle.std.proofs.Common.{◌≡◌, ℕ, zero, suc, ◌+◌, ◌-◌, ◌<◌, ◌≤◌, List, [], ◌∷◌, ◌++◌, length, get_or, inl, inr, refl, arith}
use Rattle.std.proofs.lemmas.Bool.{cases_lt}
use Rattle.ged_tree.specs.Rows.{deeper}
use Rattle.ged_tree.specs.inner.Growing.{RiseByOne, below}
use Rattle.ged_tree.proofs.table.Afters.{deeper_more, deeper_none}

-- ---- one level more behind levels

within : (level : ℕ) (levels : List ℕ) → deeper level levels ≤ length levels
within level [] = omega arith
within level (next ∷ levels) = elim (cases_lt level next) [
  | inl e ↦ rw (deeper_more level next levels e) (omega (arith, within level levels))
  | inr e ↦ rw (deeper_none level next levels e) (omega arith)
]

stays : (level : ℕ) (levels : List ℕ) (more : ℕ) → deeper level levels < length levels → deeper level (levels ++ more ∷ []) ≡ deeper level levels
stays level [] more h = absurd (omega (arith, h))
stays level (next ∷ levels) more h = elim (cases_lt level next) [
  | inl e ↦ (
      let more_is = deeper_more level next levels e in
      rw (more_is, deeper_more level next (levels ++ more ∷ []) e, stays level levels more (omega (arith, h, more_is))) refl)
  | inr e ↦ rw (deeper_none level next levels e, deeper_none level next (levels ++ more ∷ []) e) refl
]

grows : (level : ℕ) (levels : List ℕ) (more : ℕ) → deeper level levels ≡ length levels → level < more → deeper level (levels ++ more ∷ []) ≡ deeper level levels + 1
grows level [] more h e = deeper_more level more [] e
grows level (next ∷ levels) more h above = elim (cases_lt level next) [
  | inl e ↦ (
      let more_is = deeper_more level next levels e in
      let step = deeper_more level next (levels ++ more ∷ []) e in
      omega (arith, more_is, step, grows level levels more (omega (arith, h, more_is)) above))
  | inr e ↦ absurd (omega (arith, h, deeper_none level next levels e))
]

ends : (level : ℕ) (levels : List ℕ) (more : ℕ) → more ≤ level → deeper level (levels ++ more ∷ []) ≡ deeper level levels
ends level [] more h = deeper_none level more [] h
ends level (next ∷ levels) more h = elim (cases_lt level next) [
  | inl e ↦ rw (deeper_more level next levels e, deeper_more level next (levels ++ more ∷ []) e, ends level levels more h) refl
  | inr e ↦ rw (deeper_none level next levels e, deeper_none level next (levels ++ more ∷ []) e) refl
]

-- ---- how many structures stand below a place, as one more follows

pub below_within : (levels : List ℕ) (place : ℕ) → place < length levels → place + 1 + below levels place ≤ length levels
below_within [] place h = absurd (omega (arith, h))
below_within (level ∷ levels) zero h = omega (arith, within level levels)
below_within (level ∷ levels) (suc place) h = omega (arith, below_within levels place (omega (arith, h)))

pub below_stays : (levels : List ℕ) (more place : ℕ) → place + 1 + below levels place < length levels → below (levels ++ more ∷ []) place ≡ below levels place
below_stays [] more place h = absurd (omega (arith, h))
below_stays (level ∷ levels) more zero h = stays level levels more (omega (arith, h))
below_stays (level ∷ levels) more (suc place) h = below_stays levels more place (omega (arith, h))

pub below_grows : (levels : List ℕ) (more place : ℕ) → place < length levels → place + 1 + below levels place ≡ length levels → get_or levels place 0 < more
    → below (levels ++ more ∷ []) place ≡ below levels place + 1
below_grows [] more place h e above = absurd (omega (arith, h))
below_grows (level ∷ levels) more zero h e above = grows level levels more (omega (arith, e)) above
below_grows (level ∷ levels) more (suc place) h e above = below_grows levels more place (omega (arith, h)) (omega (arith, e)) above

pub below_ends : (levels : List ℕ) (more place : ℕ) → place < length levels → more ≤ get_or levels place 0 → below (levels ++ more ∷ []) place ≡ below levels place
below_ends [] more place h e = absurd (omega (arith, h))
below_ends (level ∷ levels) more zero h e = ends level levels more e
below_ends (level ∷ levels) more (suc place) h e = below_ends levels more place (omega (arith, h)) e

-- nothing stands below the last one
pub below_last : (levels : List ℕ) (more : ℕ) → below (levels ++ more ∷ []) (length levels) ≡ 0
below_last [] more = refl
below_last (level ∷ levels) more = below_last levels more

-- ---- levels that rise by one

pub front_rises : (most : ℕ) (levels : List ℕ) (more : ℕ) → RiseByOne most (levels ++ more ∷ []) → RiseByOne most levels
front_rises most [] more h = tt
front_rises most (level ∷ levels) more h = (h.0, front_rises (level + 1) levels more h.1)

-- one above the lowest is not the first
pub some_rise : (levels : List ℕ) (more : ℕ) → RiseByOne 0 (levels ++ more ∷ []) → 0 < more → 0 < length levels
some_rise [] more h above = absurd (omega (arith, h.0, above))
some_rise (level ∷ levels) more h above = omega arith

pub last_rises : (most : ℕ) (levels : List ℕ) (more : ℕ) → 0 < length levels → RiseByOne most (levels ++ more ∷ []) → more ≤ get_or levels (length levels - 1) 0 + 1
last_rises most [] more some h = absurd (omega (arith, some))
last_rises most (level ∷ []) more some h = h.1.0
last_rises most (level ∷ next ∷ levels) more some h =
    let e : length (level ∷ next ∷ levels) - 1 ≡ suc (length (next ∷ levels) - 1) = omega arith in
    rw e (last_rises (level + 1) (next ∷ levels) more (omega arith) h.1)

pub lowest_rises : (most : ℕ) (levels : List ℕ) → RiseByOne most levels → RiseByOne most (levels ++ 0 ∷ [])
lowest_rises most [] h = (omega arith, tt)
lowest_rises most (level ∷ levels) h = (h.0, lowest_rises (level + 1) levels h.1)
