-- Characters that mislead whoever reads a text on a terminal.
use Rattle.std.specs.Prelude.{ℕ, Bool, ◌%◌, ◌==◌, ◌&&◌, ◌||◌, nat_lt, nat_le}

-- a control character, by its code
abbrev pub is_control : ℕ → Bool
is_control c = nat_lt c 0x20 || (nat_lt 0x7E c && nat_lt c 0xA0)

-- a character that turns the direction of the text around it, by its code
abbrev pub turns_direction : ℕ → Bool
turns_direction c = c == 0x61C || c == 0x200E || c == 0x200F || (nat_lt 0x2029 c && nat_lt c 0x202F) || (nat_lt 0x2065 c && nat_lt c 0x206A)

-- a character that changes how what stands around it is shown: one of these, or the end of a line or of a paragraph
abbrev pub misleads : ℕ → Bool
misleads c = is_control c || turns_direction c || c == 0x2028 || c == 0x2029

-- from one character to another, by their codes
abbrev pub is_from_to : (first last : ℕ) → ℕ → Bool
is_from_to first last c = nat_le first c && nat_le c last

-- a character that shows nothing but room, so that it could be taken for the space of ASCII, by its code
abbrev pub is_blank : ℕ → Bool
is_blank c = c == 0xA0 || is_from_to 0x115F 0x1160 c || c == 0x1680 || is_from_to 0x2000 0x200A c || c == 0x202F || c == 0x205F || c == 0x2800 || c == 0x3000
    || c == 0x3164 || c == 0xFFA0 || is_from_to 0x13441 0x13442 c || c == 0x1D159

-- a code that is no character in any version of Unicode
abbrev pub is_no_character : ℕ → Bool
is_no_character c = is_from_to 0xFDD0 0xFDEF c || nat_le 0xFFFE (c % 0x10000)

-- a character that shows nothing and takes no room, by its code, or a code that is no character
abbrev pub takes_no_room : ℕ → Bool
takes_no_room c = c == 0xAD || c == 0x34F || is_from_to 0x17B4 0x17B5 c || is_from_to 0x180B 0x180F c || is_from_to 0x200B 0x200D c || is_from_to 0x2060 0x2065 c
    || is_from_to 0x206A 0x206F c || is_from_to 0xFE00 0xFE0F c || c == 0xFEFF || is_from_to 0xFFF0 0xFFFB c
    || is_from_to 0x1BCA0 0x1BCA3 c || is_from_to 0x1D173 0x1D17A c || is_from_to 0xE0000 0xE0FFF c || is_no_character c

-- a character that is not seen as it is where a line of a file is shown
abbrev pub is_unseen : ℕ → Bool
is_unseen c = misleads c || is_blank c || takes_no_room c
