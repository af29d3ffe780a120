-- Nothing here need be believed: only private contracts and proofs cite it.
-- Where a place stands among those that are kept, and which record stands there.
use Rattle.std.specs.Prelude.{◌≡◌, ℕ, ◌<◌, List, Some, slice_get}
use Rattle.ged_line.specs.Bytes.{Bytes}
use Rattle.ged_tree.specs.Trees.{Trees}
use Rattle.ged_link.specs.declared.index.RecordPlace.{RecordPlace}
use Rattle.ged_link.specs.Links.{IsRecordNumber}
use Rattle.ged_link.specs.LinkFaults.{HasXref}

-- a place that 32 bits hold is kept by this number
abbrev pub IsKeptAt : List ℕ → ℕ → ℕ → Type 0
IsKeptAt places number place = (slice_get places number ≡ Some place) × (place < 4294967295)

-- the record with this number stands at this place, and has this name
pub record IsNamedAt (d : Trees) (found : RecordPlace) (name : Bytes) : Type 0 where
  pub numbered : IsRecordNumber d found.number name
  pub placed : HasXref d found.place name
