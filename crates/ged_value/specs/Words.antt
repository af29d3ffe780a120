-- Texts and the words of a payload, and tests on them (FamilySearch GEDCOM 7.0, "Data types").
use Rattle.std.specs.Prelude.{ℕ, ◌+◌, ◌-◌, ◌*◌, Bool, List, ◌&&◌, ◌==◌, nat_lt, length}
use Rattle.std.specs.List.{list_all, list_any, fold, slice_split, join_with_byte}
use Rattle.std.specs.Char.{is_ascii_digit}
use Rattle.std.specs.Str.{bytes_eq}
pub use Rattle.ged_line.specs.Bytes.{Bytes}
pub use Rattle.ged_line.specs.Characters.{is_tag_character}
pub use Rattle.ged_line.specs.Names.{is_standard_tag, is_extension_tag}

-- one or more digits
abbrev pub is_integer : Bytes → Bool
is_integer text = nat_lt 0 (length text) && list_all is_ascii_digit text

-- the word is one of these
abbrev pub is_one_of : List Bytes → Bytes → Bool
is_one_of words word = list_any (λ w. bytes_eq w word) words

-- the number that digits spell
abbrev pub number : Bytes → ℕ
number text = fold (λ n c. 10 * n + (c - 0x30)) 0 text

-- the words of a text, between single spaces; there is one at least, which may be empty
abbrev pub words_of : Bytes → List Bytes
words_of text = slice_split (λ b. b == 0x20) text

-- the words, joined by single spaces
abbrev pub joined : List Bytes → Bytes
joined words = join_with_byte 0x20 words
