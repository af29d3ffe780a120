-- Short names as numbers. `IsIndexOf` rests on this, but a caller need not believe it: the contracts of an index's calls say what
-- follows from that.
use Rattle.std.specs.Prelude.{ℕ, ◌+◌, ◌-◌, ◌*◌, ◌^◌, Bool, ◌&&◌, cond, nat_eq, nat_le, nat_lt, [], ◌∷◌, Option, Some, None, option_map, length}
use Rattle.std.specs.Char.{is_ascii_digit}
use Rattle.std.specs.Option.{option_or}
use Rattle.std.specs.List.{list_all}
use Rattle.ged_line.specs.Bytes.{Bytes}

-- the bytes as digits to the base 256, the first one lowest, with a one above them all
abbrev pub name_number : Bytes → ℕ
name_number [] = 1
name_number (b ∷ bs) = b + 256 * name_number bs

-- so many bytes at most
abbrev pub is_up_to : ℕ → Bytes → Bool
is_up_to most name = nat_le (length name) most && list_all (λ b. nat_lt b 256) name

-- the number of a name that has so many bytes at most
abbrev pub number_up_to : ℕ → Bytes → Option ℕ
number_up_to most name = cond (is_up_to most name) (Some (name_number name)) None

-- the same without the one
abbrev pub digits_number : Bytes → ℕ
digits_number [] = 0
digits_number (b ∷ bs) = b + 256 * digits_number bs

-- so many bytes, the last of which is above one and below 128: so no shorter name has their number, and no counted one
abbrev pub is_full : ℕ → Bytes → Bool
is_full most name = nat_eq (length name) most
    && (list_all (λ b. nat_lt b 256) name && (nat_le (2 * 256 ^ (most - 1)) (digits_number name) && nat_lt (digits_number name) (128 * 256 ^ (most - 1))))

-- the number of a name that is shorter than so many bytes, or has so many, without a one above them
abbrev pub number_within : ℕ → Bytes → Option ℕ
number_within most name = cond (is_full most name) (Some (digits_number name)) (number_up_to (most - 1) name)

-- the count that decimal digits spell after one read so far; what all but the last of them spell is below 2^46, so 50 bits hold the count
abbrev pub count_read : ℕ → Bytes → Option ℕ
count_read so_far [] = Some so_far
count_read so_far (b ∷ bs) = cond (is_ascii_digit b && nat_lt so_far (2 ^ 46)) (count_read (so_far * 10 + (b - 48)) bs) None

-- the number of a counted name, which is a byte and fewer than 16 decimal digits that spell such a count: the highest of 64 bits, the count, how many digits spell
-- it, and the byte
abbrev pub counted_number : Bytes → Option ℕ
counted_number [] = None
counted_number (b ∷ digits) =
    cond (nat_lt b 256 && nat_lt (length digits) 16) (option_map (λ count. 2 ^ 63 + (b + 256 * (16 * count + length digits))) (count_read 0 digits)) None

-- the number of a short name, which 64 bits hold: a counted one, or one of at most eight bytes
abbrev pub short_number : Bytes → Option ℕ
short_number name = option_or (counted_number name) (number_within 8 name)
