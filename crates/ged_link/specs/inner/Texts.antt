-- Nothing here need be believed: only private contracts and proofs cite it.
-- How a name gets a slot in the table of texts.
use Rattle.std.specs.Prelude.{◌≡◌, ℕ, ◌+◌, ◌%◌, ◌<◌, ◌≤◌, List, Some, length, slice_index_or}
use Rattle.std.specs.Bool.{if◌then◌else◌}
use Rattle.std.specs.Str.{bytes_eq}
use Rattle.ged_line.specs.Bytes.{Bytes}
use Rattle.ged_link.specs.declared.index.RecordPlace.{RecordPlace}
use Rattle.ged_link.specs.declared.text_slots.TextSlot.{TextSlot}
use Rattle.ged_link.specs.Texts.{free, first_slot, kept_for}

-- a free slot that a name with a hash may have
pub record MayStandAt (slots : List TextSlot) (hash at : ℕ) : Type 0 where
  pub from : first_slot (length slots) hash ≤ at
  pub near : at < first_slot (length slots) hash + 8
  pub within : at < length slots
  pub free : (slice_index_or slots at free).length ≡ 0

-- where a text begins, how long it is, and the record fit a slot
pub record FitsSlot (at : ℕ) (name : Bytes) (found : RecordPlace) : Type 0 where
  pub text : at < 4294967296
  pub long : length name < 65536
  pub number : found.number < 4294967296
  pub place : found.place < 4294967296

-- the slot of a name that has a hash, and whose text begins so far along
pub record IsSlotFor (hash at : ℕ) (name : Bytes) (found : RecordPlace) (slot : TextSlot) : Type 0 where
  pub tagged : slot.tag ≡ hash % 65536
  pub begins : slot.start ≡ at
  pub long : slot.length ≡ length name
  pub numbered : slot.number ≡ found.number
  pub placed : slot.place ≡ found.place

-- what is kept for names gains one, and keeps all others, as the names are hashed
abbrev pub KeepsText : List TextSlot → Bytes → List TextSlot → Bytes → Bytes → ℕ → RecordPlace → Type 0
KeepsText old old_texts new new_texts name hash found = (hash_of : Bytes → ℕ) → hash_of name ≡ hash → (other : Bytes)
    → kept_for new new_texts other (hash_of other) ≡ (if bytes_eq name other then Some found else kept_for old old_texts other (hash_of other))
