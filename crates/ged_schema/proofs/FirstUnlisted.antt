-- The places of structures with unlisted tags, and the lowest of them.
use Rattle.std.proofs.Common.{◌≡◌, ◌≢◌, ℕ, ◌+◌, ◌<◌, ◌≤◌, refl, arith, true, inl, inr, Some, None}
use Rattle.std.specs.Prelude.{◌↔◌, ◌⊎◌}
use Rattle.ged_line.specs.Names.{is_standard_tag}
use Rattle.ged_tree.specs.Trees.{Structure, Trees, none, tree, trees_count}
use Rattle.ged_link.specs.LinkFaults.{IsLowest}
use Rattle.ged_schema.specs.declared.context.Context.{Context}
use Rattle.ged_schema.specs.declared.context.Context.TheVariants.{Unchecked}
use Rattle.ged_schema.specs.Rows.{Row}
use Rattle.ged_schema.specs.Tables.{rows, row, context_below}
use Rattle.ged_schema.specs.Unlisted.{Unlisted, UnlistedFrom}

pub unlisted_within : (c : Context) (start : ℕ) (t : Trees) (p : ℕ) → UnlistedFrom c start t p → (start ≤ p) × (p < start + trees_count t)
unlisted_within c start none p h = absurd h
unlisted_within c start (tree s b n) p (inl h) = (omega (arith, h.1), omega (arith, h.1))
unlisted_within c start (tree s b n) p (inr (inl h)) = let k = unlisted_within (context_below c s.tag) (start + 1) b p h in (omega (arith, k.0), omega (arith, k.1))
unlisted_within c start (tree s b n) p (inr (inr h)) = let k = unlisted_within c (start + 1 + trees_count b) n p h in (omega (arith, k.0), omega (arith, k.1))

-- nothing is unlisted where nothing is asked
none_unchecked : (start : ℕ) (t : Trees) (p : ℕ) → UnlistedFrom Unchecked start t p → ⊥
unfolding row rows
none_unchecked start none p h = h
none_unchecked start (tree s b n) p (inl h) = h.0.1 refl
none_unchecked start (tree s b n) p (inr (inl h)) = none_unchecked (start + 1) b p h
none_unchecked start (tree s b n) p (inr (inr h)) = none_unchecked (start + 1 + trees_count b) n p h

-- what the first tree has of them, and what the others have
from_first : (c : Context) (start : ℕ) (s : Structure) (b n : Trees) (p : ℕ) (r : Row) → row c s.tag ≡ Some r → UnlistedFrom c start (tree s b n) p
    → UnlistedFrom r.below (start + 1) b p ⊎ UnlistedFrom c (start + 1 + trees_count b) n p
from_first c start s b n p r some (inl h) = cc
from_first c start s b n p r some (inr (inl h)) = inl (rw some at h)
from_first c start s b n p r some (inr (inr h)) = inr h

from_unlisted : (c : Context) (start : ℕ) (s : Structure) (b n : Trees) (p : ℕ) → row c s.tag ≡ None → UnlistedFrom c start (tree s b n) p
    → ((is_standard_tag s.tag ≡ true) × (c ≢ Unchecked)) ⊎ UnlistedFrom c (start + 1 + trees_count b) n p
from_unlisted c start s b n p nothing (inl h) = inl (h.0.0, h.0.1)
from_unlisted c start s b n p nothing (inr (inl h)) = absurd (none_unchecked (start + 1) b p (rw nothing at h))
from_unlisted c start s b n p nothing (inr (inr h)) = inr h

module _ (c : Context) (t : Trees) (s : Structure) (b n : Trees) (is : t ≡ tree s b n) (place after : ℕ) (next : place + 1 + trees_count b ≡ after) where
  later : (p : ℕ) → UnlistedFrom c after n p → UnlistedFrom c place t p
  later p h = rw is (inr (inr (rw next h)))

  -- where the first tree has none, those that are left have the same
  pub same_row : (r : Row) → row c s.tag ≡ Some r → ((p : ℕ) → UnlistedFrom r.below (place + 1) b p → ⊥) → (p : ℕ) → UnlistedFrom c place t p ↔ UnlistedFrom c after n p
  same_row r some never p = (
    λ h. elim (from_first c place s b n p r some (rw is at h)) [ inl under ↦ absurd (never p under) | inr rest ↦ rw next at rest ],
    later p,
  )

  pub same_none : row c s.tag ≡ None → ((is_standard_tag s.tag ≡ true) × (c ≢ Unchecked) → ⊥) → (p : ℕ) → UnlistedFrom c place t p ↔ UnlistedFrom c after n p
  same_none nothing never p = (
    λ h. elim (from_unlisted c place s b n p nothing (rw is at h)) [ inl own ↦ absurd (never own) | inr rest ↦ rw next at rest ],
    later p,
  )

  pub lowest_here : row c s.tag ≡ None → is_standard_tag s.tag ≡ true → c ≢ Unchecked → IsLowest (UnlistedFrom c place t) place
  lowest_here nothing standard asked = (rw is (inl ((standard, asked, nothing), refl)), λ other h. (unlisted_within c place t other h).0)

  pub lowest_below : (r : Row) → row c s.tag ≡ Some r → (p : ℕ) → IsLowest (UnlistedFrom r.below (place + 1) b) p → IsLowest (UnlistedFrom c place t) p
  lowest_below r some p low = (
    rw (is, some) (inr (inl low.0)),
    λ other h. elim (from_first c place s b n other r some (rw is at h)) [
      | inl under ↦ low.1 other under
      | inr rest ↦ omega (arith, (unlisted_within c (place + 1 + trees_count b) n other rest).0, (unlisted_within r.below (place + 1) b p low.0).1)
    ],
  )

pub lowest_same : (P Q : ℕ → Type 0) → ((p : ℕ) → P p ↔ Q p) → (p : ℕ) → IsLowest Q p → IsLowest P p
lowest_same P Q same p low = ((same p).1 low.0, λ other h. low.1 other ((same other).0 h))

pub both_same : {P Q R : Type 0} → P ↔ Q → Q ↔ R → P ↔ R
both_same h k = (λ p. k.0 (h.0 p), λ r. h.1 (k.1 r))

pub none_left : (c : Context) (start : ℕ) (t : Trees) → t ≡ none → (p : ℕ) → UnlistedFrom c start t p → ⊥
none_left c start t is p h = rw is at h

-- some structure has an unlisted tag exactly where the one at some place has
pub has_place : (c : Context) (start : ℕ) (t : Trees) → Unlisted c t → (p : ℕ) × UnlistedFrom c start t p
has_place c start none h = absurd h
has_place c start (tree s b n) (inl h) = (start, inl (h, refl))
has_place c start (tree s b n) (inr (inl h)) = let k = has_place (context_below c s.tag) (start + 1) b h in (k.0, inr (inl k.1))
has_place c start (tree s b n) (inr (inr h)) = let k = has_place c (start + 1 + trees_count b) n h in (k.0, inr (inr k.1))

pub place_has : (c : Context) (start : ℕ) (t : Trees) (p : ℕ) → UnlistedFrom c start t p → Unlisted c t
place_has c start none p h = absurd h
place_has c start (tree s b n) p (inl h) = inl h.0
place_has c start (tree s b n) p (inr (inl h)) = inr (inl (place_has (context_below c s.tag) (start + 1) b p h))
place_has c start (tree s b n) p (inr (inr h)) = inr (inr (place_has c (start + 1 + trees_count b) n p h))
