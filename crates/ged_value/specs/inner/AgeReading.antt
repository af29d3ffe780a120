-- Nothing here need be believed: only private contracts and proofs cite it.
-- The code of src/age.rt that reads ages from words, as definitions. Only private functions speak of these; what an age
-- is, is said by `Ages`.
use Rattle.std.specs.Prelude.{ℕ, List, [], ◌∷◌, ◌&&◌, ◌==◌, not, Option, Some, None, length, codes, if◌then◌else◌, option_and_then}
use Rattle.std.specs.Option.{option_map}
use Rattle.std.specs.Str.{bytes_eq}
use Rattle.ged_value.specs.Words.{Bytes, is_integer}
use Rattle.ged_value.specs.Ages.{Sign, less, greater, AgeParts}

-- what the empty text spells
abbrev pub no_age : AgeParts
no_age = record { bound = None; years = None; months = None; weeks = None; days = None }

-- the word without the letter at its end
abbrev pub before_last : ℕ → Bytes → Option Bytes
before_last letter [] = None
before_last letter (b ∷ []) = if b == letter then Some [] else None
before_last letter (b ∷ c ∷ bs) = option_map (λ front. b ∷ front) (before_last letter (c ∷ bs))

-- the digits, where they are a number
abbrev pub if_integer : Bytes → Option Bytes
if_integer digits = if is_integer digits then Some digits else None

-- the digits before the letter that ends the word
abbrev pub number_before : ℕ → Bytes → Option Bytes
number_before letter word = option_and_then if_integer (before_last letter word)

-- a first word's digits, if it has them, and the words that are left
abbrev pub unit_behind : Option Bytes → Bytes → List Bytes → Option Bytes × List Bytes
unit_behind None word words = (None, word ∷ words)
unit_behind (Some digits) word words = (Some digits, words)

-- the digits of a first word that ends with the letter, and the words that are left
abbrev pub unit_at : ℕ → List Bytes → Option Bytes × List Bytes
unit_at letter [] = (None, [])
unit_at letter (word ∷ words) = unit_behind (number_before letter word) word words

-- the sign that a first word is, and the words that are left
abbrev pub sign_at : List Bytes → Option Sign × List Bytes
sign_at [] = (None, [])
sign_at (word ∷ words) =
    if bytes_eq word (codes "<") then (Some less, words)
    else (if bytes_eq word (codes ">") then (Some greater, words)
    else (None, word ∷ words))

-- the numbers in their order, where there is a word and none is left
abbrev pub units_at : Option Sign → List Bytes → Option AgeParts
units_at bound words =
    let y = unit_at 0x79 words in
    let m = unit_at 0x6D y.1 in
    let w = unit_at 0x77 m.1 in
    let d = unit_at 0x64 w.1 in
    if not (length words == 0) && (length d.1 == 0)
    then Some (record { bound = bound; years = y.0; months = m.0; weeks = w.0; days = d.0 })
    else None

-- the age that the words spell
abbrev pub age_at : List Bytes → Option AgeParts
age_at words = units_at (sign_at words).0 (sign_at words).1
