-- Nothing here need be believed: only private contracts and proofs cite it.
-- The bytes of the characters that may not stand in a line. Only private functions speak of these; what a line may
-- hold is said by `Characters`.
use Rattle.std.specs.Prelude.{◌≡◌, ℕ, ◌+◌, ◌<◌, ◌==◌, ◌&&◌, ◌||◌, nat_lt, not, Bool, true, ◌⊎◌, length, slice_index}
use Rattle.ged_line.specs.Bytes.{Bytes}

-- a control character other than tab, which is one byte
abbrev pub is_control : ℕ → Bool
is_control b = (nat_lt b 0x20 && not (b == 0x09)) || b == 0x7F

-- a byte that ends a line, or may be the first of a character that may not stand in one; and a tab, which may
abbrev pub is_special : ℕ → Bool
is_special b = (nat_lt b 0x20 || b == 0x7F) || b == 0xEF

-- a control character other than tab stands at this place
pub record ControlAt (bytes : Bytes) (at : ℕ) : Type 0 where
  pub inside : at < length bytes
  pub control : is_control (slice_index bytes at) ≡ true

-- the three bytes of U+FFFE or U+FFFF stand at this place
pub record NoncharacterAt (bytes : Bytes) (at : ℕ) : Type 0 where
  pub inside : at + 2 < length bytes
  pub first : slice_index bytes at ≡ 0xEF
  pub second : slice_index bytes (at + 1) ≡ 0xBF
  pub third : (slice_index bytes (at + 2) ≡ 0xBE) ⊎ (slice_index bytes (at + 2) ≡ 0xBF)
