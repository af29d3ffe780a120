-- The table of records by the texts of their names.
use Rattle.std.specs.Prelude.{◌≡◌, ℕ, ◌+◌, ◌*◌, ◌/◌, ◌%◌, ◌≤◌, ◌<◌, Bool, ◌&&◌, cond, nat_le, nat_lt, nat_eq, List, [], ◌∷◌, Option, Some, None, fold, take, drop, length, slice_index_or}
use Rattle.std.specs.List.{All}
use Rattle.std.specs.Option.{option_or}
use Rattle.std.specs.Str.{bytes_eq}
use Rattle.std.specs.Hash as fed
use Rattle.std.specs.Hash.FoldHasher.{initial, write, finish}
use Rattle.ged_line.specs.Bytes.{Bytes}
use Rattle.ged_link.specs.declared.index.RecordPlace.{RecordPlace}
use Rattle.ged_link.specs.declared.text_slots.TextSlot.{TextSlot}

-- the hash of a name under a key
abbrev pub text_hash : ℕ → Bytes → ℕ
text_hash key name = finish (write (fold write initial (fed.u64 key)) name)

-- the first of the slots that a name with a hash may have, in a table of so many
abbrev pub first_slot : ℕ → ℕ → ℕ
first_slot room hash = hash / 4294967296 * room / 4294967296

-- these slots
abbrev pub slots_of : List TextSlot → ℕ → List TextSlot
slots_of slots hash = take 8 (drop (first_slot (length slots) hash) slots)

-- the text of the name that a slot is of
abbrev pub text_in : Bytes → TextSlot → Bytes
text_in texts slot = cond (nat_le (slot.start + slot.length) (length texts)) (take slot.length (drop slot.start texts)) []

-- a slot is a name's if it has the last bits of the name's hash, and the name's text
abbrev pub is_slot_of : Bytes → Bytes → ℕ → TextSlot → Bool
is_slot_of texts name tag slot = nat_eq slot.tag tag && (nat_lt 0 slot.length && bytes_eq (text_in texts slot) name)

abbrev pub record_in : TextSlot → RecordPlace
record_in slot = record { number = slot.number; place = slot.place }

-- what the first of some slots keeps that is a name's
abbrev pub kept_among : Bytes → Bytes → ℕ → List TextSlot → Option RecordPlace
kept_among texts name tag [] = None
kept_among texts name tag (slot ∷ more) = cond (is_slot_of texts name tag slot) (Some (record_in slot)) (kept_among texts name tag more)

-- what is kept for a name in the slots that it may have
abbrev pub kept_for : List TextSlot → Bytes → Bytes → ℕ → Option RecordPlace
kept_for slots texts name hash = kept_among texts name (hash % 65536) (slots_of slots hash)

-- the texts of slots are among these
abbrev pub IsWithin : Bytes → TextSlot → Type 0
IsWithin texts slot = slot.start + slot.length ≤ length texts

abbrev pub AreWithin : Bytes → List TextSlot → Type 0
AreWithin texts slots = All (IsWithin texts) slots

-- a slot without a name
abbrev pub free : TextSlot
free = record { tag = 0; start = 0; length = 0; number = 0; place = 0 }

-- no slot is free that a name with a hash may have
abbrev pub HasNoRoom : List TextSlot → ℕ → Type 0
HasNoRoom slots hash = (at : ℕ) → at < length (slots_of slots hash) → 0 < (slice_index_or (slots_of slots hash) at free).length

-- a name whose record is found elsewhere has no slot free
abbrev pub AreCrowded : ℕ → List TextSlot → (Bytes → Option RecordPlace) → Type 0
AreCrowded key slots other = (name : Bytes) (found : RecordPlace) → other name ≡ Some found → HasNoRoom slots (text_hash key name)

-- the record that has a name: that in a slot of the name's, or else that under its text
abbrev pub found_text : ℕ → List TextSlot → Bytes → (Bytes → Option RecordPlace) → Bytes → Option RecordPlace
found_text key slots texts other name = option_or (kept_for slots texts name (text_hash key name)) (other name)
