-- Ages: their parts, and the texts that spell them (FamilySearch GEDCOM 7.0, "Age").
use Rattle.std.specs.Prelude.{◌≡◌, ℕ, List, [], ◌∷◌, ◌++◌, ◌<◌, ◌⊎◌, Option, Some, None, IsTrue, IfSome, length, codes}
use Rattle.ged_value.specs.Words.{Bytes, is_integer, joined}

-- the real age is less, or greater, than the numbers say
pub data Sign : Type 0 where
  less : Sign
  greater : Sign

-- the parts of an age: the digits of each number, without the letter behind them
pub record AgeParts : Type 0 where
  pub bound : Option Sign
  pub years : Option Bytes
  pub months : Option Bytes
  pub weeks : Option Bytes
  pub days : Option Bytes

-- the word of a sign, if there is one
abbrev pub sign_words : Option Sign → List Bytes
sign_words None = []
sign_words (Some less) = codes "<" ∷ []
sign_words (Some greater) = codes ">" ∷ []

-- the word of a number, if there is one: its digits, straight followed by the letter
abbrev pub unit_words : ℕ → Option Bytes → List Bytes
unit_words letter None = []
unit_words letter (Some digits) = (digits ++ (letter ∷ [])) ∷ []

-- years `y`, months `m`, weeks `w` and days `d`, in this order
abbrev pub duration_words : AgeParts → List Bytes
duration_words a =
    unit_words 0x79 a.years ++ (unit_words 0x6D a.months ++ (unit_words 0x77 a.weeks ++ unit_words 0x64 a.days))

-- a part that is there is a number
abbrev pub IsNumber : Option Bytes → Type 0
IsNumber part = IfSome part (λ digits. IsTrue (is_integer digits))

-- the same of each part of an age
abbrev pub HasNumbers : AgeParts → Type 0
HasNumbers a = IsNumber a.years × IsNumber a.months × IsNumber a.weeks × IsNumber a.days

-- The text spells the age: both are empty, or it is a sign, if there is one, and one number at least, with single spaces
-- between them.
abbrev pub AgeText : AgeParts → Bytes → Type 0
AgeText a text = ((a ≡ record { bound = None; years = None; months = None; weeks = None; days = None }) × (text ≡ []))
    ⊎ (HasNumbers a × (0 < length (duration_words a)) × (text ≡ joined (sign_words a.bound ++ duration_words a)))
