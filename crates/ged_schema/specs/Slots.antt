-- The slots that keep the numbers of rows. Of what is public only the invariant of `ContextRows` cites this.
use Rattle.std.specs.Prelude.{ℕ, ◌+◌, ◌-◌, ◌*◌, ◌/◌, ◌%◌, ◌^◌, ◌==◌, ◌&&◌, Bool, true, List, [], ◌∷◌, length, slice_index}
use Rattle.ged_line.specs.Bytes.{Bytes}
use Rattle.ged_schema.specs.declared.slots.TheConstants.{FACTOR, SLOTS}
use Rattle.ged_schema.specs.Rows.{Row}

-- the slot by four bytes: as digits to the base 256, the first one lowest, they are multiplied by a factor, and the highest 9 of 32 bits
-- of the product are added to the seed
abbrev pub slot_by : ℕ → ℕ → ℕ → ℕ → ℕ → ℕ
slot_by seed first second third last =
    (seed + (first + 256 * (second + 256 * (third + 256 * last))) * FACTOR % 2 ^ 32 / 2 ^ 23) % 512

-- the slot of a tag, by its first three bytes and its last one; a byte past the end counts as 0
abbrev pub slot_from : ℕ → Bytes → ℕ
slot_from seed tag = slot_by seed (slice_index tag 0) (slice_index tag 1) (slice_index tag 2) (slice_index tag (length tag - 1))

-- the number that is kept for a tag
abbrev pub kept_number : ℕ → Bytes → ℕ
kept_number seed tag = slice_index SLOTS (slot_from seed tag)

-- each row's number, where they are counted from a number on, is that of its tag
abbrev pub are_numbered : (Bytes → ℕ) → ℕ → List Row → Bool
are_numbered number_of number [] = true
are_numbered number_of number (r ∷ rs) = (number_of r.tag == number) && are_numbered number_of (number + 1) rs
