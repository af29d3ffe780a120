-- The characters of a line (FamilySearch GEDCOM 7.0, "Characters").
use Rattle.std.specs.Prelude.{ℕ, ◌==◌, ◌&&◌, ◌||◌, nat_lt, not, Bool}
use Rattle.std.specs.Char.{is_ascii_digit, is_ascii_uppercase}
use Rattle.std.specs.List.{list_any}
use Rattle.std.specs.Str.{is_utf8, chars}
use Rattle.ged_line.specs.Bytes.{Bytes}

-- a character that may not stand in a line: a control character below U+0020 other than tab (those of the line ends too), U+007F,
-- U+FFFE or U+FFFF
abbrev pub is_banned : ℕ → Bool
is_banned c = (nat_lt c 0x20 && not (c == 0x09)) || c == 0x7F || c == 0xFFFE || c == 0xFFFF

-- some character of a text is banned
abbrev pub has_banned : Bytes → Bool
has_banned bytes = list_any is_banned (chars bytes)

-- a text in UTF-8 with no banned character
abbrev pub is_plain : Bytes → Bool
is_plain bytes = is_utf8 bytes && not (list_any is_banned (chars bytes))

-- a capital letter, a digit or an underscore (the standard's tagchar)
abbrev pub is_tag_character : ℕ → Bool
is_tag_character c = is_ascii_uppercase c || is_ascii_digit c || c == 0x5F
