-- Leading zeros: each 0 at the front of a number that a digit follows. They have no meaning, and should be left out
-- (FamilySearch GEDCOM 7.0, "Integer").
use Rattle.std.specs.Prelude.{◌≡◌, Bool, false, IsTrue, List, [], ◌∷◌, ◌++◌, ◌&&◌, ◌==◌, if◌then◌else◌, map, filter}
use Rattle.std.specs.Char.{is_ascii_digit}
use Rattle.ged_value.specs.Words.{Bytes, words_of}

abbrev pub begins_with_digit : Bytes → Bool
begins_with_digit [] = false
begins_with_digit (b ∷ bs) = is_ascii_digit b

-- a 0 stands at the front, and a digit follows it
abbrev pub has_leading_zero : Bytes → Bool
has_leading_zero [] = false
has_leading_zero (b ∷ bs) = b == 0x30 && begins_with_digit bs

-- the word without its leading zeros
abbrev pub trim_zeros : Bytes → Bytes
trim_zeros [] = []
trim_zeros (b ∷ bs) = if has_leading_zero (b ∷ bs) then trim_zeros bs else b ∷ bs

-- the words of a text that begin with a digit, in order
abbrev pub digit_words : Bytes → List Bytes
digit_words text = filter begins_with_digit (words_of text)

-- the words of a text, each without its leading zeros
abbrev pub trimmed_words : Bytes → List Bytes
trimmed_words text = map trim_zeros (words_of text)

-- the new words are the old ones with one leading zero of one word left out
abbrev pub LeavesOutZero : List Bytes → List Bytes → Type 0
LeavesOutZero old new = (front : List Bytes) × (word : Bytes) × (back : List Bytes) × IsTrue (begins_with_digit word)
    × (old ≡ front ++ ((0x30 ∷ word) ∷ back)) × (new ≡ front ++ (word ∷ back))
