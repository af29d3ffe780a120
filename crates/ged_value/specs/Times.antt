-- Times of day: their parts, and the text that spells them (FamilySearch GEDCOM 7.0, "Time").
use Rattle.std.specs.Prelude.{◌≡◌, Bool, true, [], ◌∷◌, ◌++◌, ◌&&◌, ◌==◌, nat_le, Option, Some, None, is_none, IsTrue, if◌then◌else◌, length, codes}
use Rattle.std.specs.Option.{option_map_or}
use Rattle.ged_value.specs.Words.{Bytes, is_integer, number}

-- a time of day, in UTC or where it was taken
pub record TimeParts : Type 0 where
  pub hour : Bytes
  pub minute : Bytes
  pub second : Option Bytes
  pub fraction : Option Bytes
  pub utc : Bool

-- 0 to 23, in one or two digits
abbrev pub is_hour : Bytes → Bool
is_hour digits = is_integer digits && (nat_le (length digits) 2 && nat_le (number digits) 23)

-- 00 to 59, in two digits
abbrev pub is_sixtieth : Bytes → Bool
is_sixtieth digits = is_integer digits && (length digits == 2 && nat_le (number digits) 59)

-- a fraction stands only behind a second
abbrev pub is_second : Option Bytes → Option Bytes → Bool
is_second None fraction = is_none fraction
is_second (Some second) fraction = is_sixtieth second && option_map_or is_integer fraction true

-- whether the parts are those of a time
abbrev pub is_time : TimeParts → Bool
is_time t = is_hour t.hour && (is_sixtieth t.minute && is_second t.second t.fraction)

-- the hour, `:` and the minute, then `:` and the second, and `.` and its fraction, if there are any
abbrev pub clock : TimeParts → Bytes
clock t = t.hour ++ (58 ∷ (t.minute ++ (option_map_or (λ s. 58 ∷ s) t.second [] ++ option_map_or (λ f. 46 ∷ f) t.fraction [])))

-- the text is the clock's, with `Z` behind it for UTC
abbrev pub TimeText : TimeParts → Bytes → Type 0
TimeText t text = IsTrue (is_time t) × (text ≡ clock t ++ (if t.utc then codes "Z" else []))
