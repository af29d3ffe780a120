-- The records that pointers name, as an index keeps them.
use Rattle.std.specs.Prelude.{◌≡◌, ℕ, List, Some, slice_get}
use Rattle.ged_line.specs.Bytes.{Bytes}
use Rattle.ged_tree.specs.Trees.{Trees}
use Rattle.ged_tree.specs.Places.{structure_at}
use Rattle.ged_tree.specs.declared.payload.Payload.TheVariants.{Pointer}
use Rattle.ged_link.specs.declared.targets.Target.{Target}
use Rattle.ged_link.specs.Links.{IsRecordNumber}

-- the structure at a place has a pointer that names the record with this number
abbrev pub PointsAt : Trees → ℕ → ℕ → Type 0
PointsAt d place number = (name : Bytes) × ((structure_at d place).payload ≡ Pointer name) × IsRecordNumber d number name

-- each of them tells what a pointer names
abbrev pub AreTargets : Trees → List Target → Type 0
AreTargets d targets = (index : ℕ) (target : Target) → slice_get targets index ≡ Some target → PointsAt d target.place target.number
