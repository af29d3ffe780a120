-- Nothing here need be believed: only private contracts and proofs cite it.
use Rattle.std.specs.Prelude.{◌≡◌, ℕ, ◌<◌, cond, Option, Some, None, ◌&&◌, nat_eq, slice_index_or}
use Rattle.ged_line.specs.Bytes.{Bytes}
use Rattle.ged_link.specs.declared.index.RecordPlace.{RecordPlace}
use Rattle.ged_link.specs.declared.slots.Slots.{Slots}
use Rattle.ged_link.specs.declared.names.Names.{Names}
use Rattle.ged_link.specs.NameNumbers.{short_number}
use Rattle.ged_link.specs.Slots.{empty, kept_as, slot_in, kept_in}

-- what is kept in a slot for a name that spells a number
abbrev pub kept_at : Slots → ℕ → ℕ → Option RecordPlace
kept_at slots slot number = kept_as (slice_index_or slots.entries.items slot empty) number

-- a record is kept for a number in a slot, and all others stay
abbrev pub KeepsIn : Slots → Slots → ℕ → ℕ → RecordPlace → Type 0
KeepsIn old new slot number found = (other : Bytes) (n : ℕ) → 0 < n
    → kept_in new other n ≡ cond (nat_eq number n && nat_eq slot (slot_in old.regions.items other)) (Some found) (kept_in old other n)

-- nothing is kept in a slot for a name
abbrev pub HasNoSlot : Names → Bytes → Type 0
HasNoSlot records name = (number : ℕ) → short_number name ≡ Some number → kept_in records.slots name number ≡ None

-- a record has a name that has no slot, and this is the number that the name spells, or 0 where it spells none
pub record IsMissed (records : Names) (number : ℕ) (xref : Option Bytes) : Type 0 where
  pub name : Bytes
  pub is : xref ≡ Some name
  pub short : (number ≡ 0 → ⊥) → short_number name ≡ Some number
  pub long : number ≡ 0 → short_number name ≡ None
  pub missed : HasNoSlot records name
