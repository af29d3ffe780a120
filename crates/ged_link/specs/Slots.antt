-- The table of records by the slots that their names ask for.
use Rattle.std.specs.Prelude.{ℕ, ◌+◌, ◌*◌, ◌%◌, cond, nat_lt, nat_eq, List, [], ◌∷◌, Option, Some, None, slice_index_or}
use Rattle.ged_line.specs.Bytes.{Bytes}
use Rattle.ged_link.specs.declared.index.RecordPlace.{RecordPlace}
use Rattle.ged_link.specs.declared.slots.Entry.{Entry}
use Rattle.ged_link.specs.declared.slots.Region.{Region}
use Rattle.ged_link.specs.declared.slots.Slots.{Slots}

-- the number that bytes spell as decimal digits after one read so far, each byte by its low four bits, as 32 bits hold it
abbrev pub number_read : ℕ → Bytes → ℕ
number_read so_far [] = so_far
number_read so_far (b ∷ bs) = number_read ((so_far * 10 % 4294967296 + b % 16) % 4294967296) bs

-- a number brought into a region of so many slots
abbrev pub brought_into : ℕ → ℕ → ℕ
brought_into room number = cond (nat_lt number room) number (cond (nat_eq room 0) 0 (number % room))

abbrev pub no_region : Region
no_region = record { start = 0; room = 0 }

abbrev pub slot_within : Region → ℕ → ℕ
slot_within region number = region.start + brought_into region.room number

-- the slot that a name asks for: in the region of its first byte, by the number after that
abbrev pub slot_in : List Region → Bytes → ℕ
slot_in regions [] = 0
slot_in regions (b ∷ bs) = slot_within (slice_index_or regions b no_region) (number_read 0 bs)

abbrev pub empty : Entry
empty = record { name = 0; number = 0; place = 0 }

-- an entry tells by its name's number whose it is
abbrev pub kept_as : Entry → ℕ → Option RecordPlace
kept_as entry number = cond (nat_eq entry.name number) (Some (record { number = entry.number; place = entry.place })) None

-- what is kept for a name, which spells a number
abbrev pub kept_in : Slots → Bytes → ℕ → Option RecordPlace
kept_in slots name number = kept_as (slice_index_or slots.entries.items (slot_in slots.regions.items name) empty) number
