-- The word of the Gregorian calendar, which is the default, so a date means the same without it (FamilySearch GEDCOM
-- 7.0, "Date").
use Rattle.std.specs.Prelude.{◌≡◌, Bool, not, List, ◌∷◌, ◌++◌, filter}
use Rattle.std.specs.Str.{bytes_eq}
use Rattle.ged_value.specs.Words.{Bytes, words_of}
use Rattle.ged_value.specs.Dates.{gregorian, calendar_word}

-- GREGORIAN
abbrev pub default_word : Bytes
default_word = calendar_word gregorian

-- the word is another than GREGORIAN
abbrev pub is_other : Bytes → Bool
is_other word = not (bytes_eq word default_word)

-- the words of a text that are others, in order
abbrev pub without_default : Bytes → List Bytes
without_default text = filter is_other (words_of text)

-- the new words are the old ones with one word GREGORIAN left out
abbrev pub LeavesOut : List Bytes → List Bytes → Type 0
LeavesOut old new =
    (front : List Bytes) × (back : List Bytes) × (old ≡ front ++ (default_word ∷ back)) × (new ≡ front ++ back)

-- the same of texts, by their words between single spaces
abbrev pub TextLeavesOut : Bytes → Bytes → Type 0
TextLeavesOut old new = LeavesOut (words_of old) (words_of new)
