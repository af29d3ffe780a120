-- Exact dates: their parts, and the words that spell them (FamilySearch GEDCOM 7.0, "Date").
use Rattle.std.specs.Prelude.{◌≡◌, Bool, List, [], ◌∷◌, ◌&&◌, IsTrue}
use Rattle.ged_value.specs.Words.{Bytes, is_integer, joined}
use Rattle.ged_value.specs.Dates.{gregorian, is_month, is_day}

-- a date of the Gregorian calendar with each part but an epoch
pub record ExactParts : Type 0 where
  pub day : Bytes
  pub month : Bytes
  pub year : Bytes

-- whether the calendar has the month, the month the day, and the year is a number
abbrev pub is_exact : ExactParts → Bool
is_exact e = is_month gregorian e.month && (is_day gregorian e.month e.day && is_integer e.year)

-- a day, a month and a year, and no word for the calendar
abbrev pub SpellsExact : ExactParts → List Bytes → Type 0
SpellsExact e words = IsTrue (is_exact e) × (words ≡ e.day ∷ e.month ∷ e.year ∷ [])

-- the text is the words, with single spaces between them
abbrev pub ExactText : ExactParts → Bytes → Type 0
ExactText e text = (words : List Bytes) × SpellsExact e words × (text ≡ joined words)
