-- What is kept of the records that pointers name.
use Rattle.std.proofs.Common.{◌≡◌, ◌↔◌, ℕ, zero, suc, List, [], ◌∷◌, ◌++◌, Some, ◌⊎◌, inl, inr, sym, ◌∙◌, slice_get}
use Rattle.ged_line.specs.Bytes.{Bytes}
use Rattle.ged_tree.specs.Trees.{Trees}
use Rattle.ged_tree.specs.Places.{structure_at}
use Rattle.ged_tree.specs.declared.payload.Payload.TheVariants.{Pointer}
use Rattle.ged_link.specs.declared.names.Names.{Names}
use Rattle.ged_link.specs.Links.{IsRecordNumber}
use Rattle.ged_link.specs.Indexes.{AreRecords}
use Rattle.ged_link.specs.Targets.{PointsAt}

pub last_or : {X : Type 0} (xs : List X) (y z : X) (i : ℕ) → slice_get (xs ++ y ∷ []) i ≡ Some z → (slice_get xs i ≡ Some z) ⊎ (y ≡ z)
last_or [] y z zero is = inr (cc)
last_or [] y z (suc i) is = absurd (cc)
last_or (x ∷ xs) y z zero is = inl is
last_or (x ∷ xs) y z (suc i) is = last_or xs y z i is

-- a record that a pointer at the place names is the one with the name
pub points_at_one : (d : Trees) (records : Names) (place number : ℕ) (name : Bytes) → AreRecords d records → PointsAt d place number → (structure_at d place).payload ≡ Pointer name
    → (other : ℕ) → (Some number ≡ Some other) ↔ IsRecordNumber d other name
points_at_one d records place number name are points here other =
    let same : points.0 ≡ name = pointer_name points.0 name (sym points.1 ∙ here) in
    let one : IsRecordNumber d number name = rw (← same) points.2 in (
      λ e. (let f : number ≡ other = cc in rw (← f) one),
      λ h. sym ((are.numbered name number).1 one) ∙ (are.numbered name other).1 h,
    )
  where
    pointer_name : (a b : Bytes) → Pointer a ≡ Pointer b → a ≡ b
    pointer_name a b e = cc
