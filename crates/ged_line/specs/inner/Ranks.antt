-- Nothing here need be believed: only private contracts and proofs cite it.
-- The ranks of tags of four bytes, whose order is that of the tags.
use Rattle.std.specs.Prelude.{ℕ, ◌+◌, ◌*◌, ◌==◌, if◌then◌else◌, slice_index}
use Rattle.ged_line.specs.Bytes.{Bytes}

-- the first four bytes as one number, the first byte in the highest place
abbrev pub four_number : Bytes → ℕ
four_number tag = slice_index tag 0 * 16777216 + (slice_index tag 1 * 65536 + (slice_index tag 2 * 256 + slice_index tag 3))

-- the rank by this number: GEDC, whose number is 0x47454443, has the lowest
abbrev pub number_rank : ℕ → ℕ
number_rank number = if number == 0x47454443 then 0 else number + 1

abbrev pub four_rank : Bytes → ℕ
four_rank tag = number_rank (four_number tag)
