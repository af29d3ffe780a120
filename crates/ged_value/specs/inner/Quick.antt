-- Nothing here need be believed: only private contracts and proofs cite it.
-- Dates of the Gregorian calendar, and the keywords before and between them. Only private functions speak of these; what
-- a date value is, is said by `Values`.
use Rattle.std.specs.Prelude.{◌≡◌, ℕ, Bool, List, [], ◌∷◌, ◌++◌, ◌⊎◌, ◌&&◌, nat_le, Some, IsTrue, codes}
use Rattle.ged_value.specs.Words.{Bytes, words_of, is_integer, is_one_of, number, joined}
use Rattle.ged_value.specs.Dates.{gregorian, DateParts, roman_days, is_date, date_words, SpellsDate}
use Rattle.ged_value.specs.Values.{ValueParts, DateValueText}

-- the words that make a date value of the one date behind them
abbrev pub lone_keywords : List Bytes
lone_keywords = words_of (codes "ABT AFT BEF CAL EST")

-- the word may stand before a year: a keyword, which has no days, or a month with its greatest day
abbrev pub IsBeforeYear : ℕ → Bytes → Type 0
IsBeforeYear days word = ((days ≡ 0) × IsTrue (is_one_of lone_keywords word)) ⊎ (roman_days word ≡ Some days)

-- the text is such a word, a space and a year
abbrev pub IsWordAndYear : ℕ → Bytes → Type 0
IsWordAndYear days text =
    (word : Bytes) × (year : Bytes) × IsBeforeYear days word × IsTrue (is_integer year) × (text ≡ joined (word ∷ year ∷ []))

-- the text is a month that has so many days, a space and a year
abbrev pub IsMonthAndYear : ℕ → Bytes → Type 0
IsMonthAndYear days text =
    (month : Bytes) × (year : Bytes) × (roman_days month ≡ Some days) × IsTrue (is_integer year)
    × (text ≡ joined (month ∷ year ∷ []))

-- a number from 1 to the greatest
abbrev pub is_day_to : ℕ → Bytes → Bool
is_day_to greatest day = is_integer day && (nat_le 1 (number day) && nat_le (number day) greatest)

-- the text is such a number and a space
abbrev pub IsDayTo : ℕ → Bytes → Type 0
IsDayTo greatest text = (day : Bytes) × IsTrue (is_day_to greatest day) × (text ≡ day ++ (0x20 ∷ []))

-- the text is a date of the Gregorian calendar, which isn't named
abbrev pub IsUnnamedDate : Bytes → Type 0
IsUnnamedDate text =
    (date : DateParts) × (date.calendar ≡ gregorian) × IsTrue (is_date date) × (text ≡ joined (date_words date))

-- the text is the other one, or the calendar's word and the other one
abbrev pub IsBehindCalendar : Bytes → Bytes → Type 0
IsBehindCalendar text others = (text ≡ others) ⊎ (text ≡ codes "GREGORIAN " ++ others)

-- the text spells the date
abbrev pub DateText : DateParts → Bytes → Type 0
DateText date text = (words : List Bytes) × SpellsDate date words × (text ≡ joined words)

-- the text is a date
abbrev pub IsDateText : Bytes → Type 0
IsDateText text = (date : DateParts) × DateText date text

-- the text is two dates with a word between them
abbrev pub AreDatesAround : Bytes → Bytes → Type 0
AreDatesAround word text =
    (front : Bytes) × (back : Bytes) × IsDateText front × IsDateText back × (text ≡ front ++ (word ++ back))

-- the text is a date value
abbrev pub IsValueText : Bytes → Type 0
IsValueText text = (value : ValueParts) × DateValueText value text

-- the text is the other one, or such a word and the other one
abbrev pub IsBehindKeyword : Bytes → Bytes → Type 0
IsBehindKeyword text others =
    (text ≡ others) ⊎ ((keyword : Bytes) × IsTrue (is_one_of lone_keywords keyword) × (text ≡ joined (keyword ∷ others ∷ [])))
