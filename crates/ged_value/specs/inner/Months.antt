-- Nothing here need be believed: only private contracts and proofs cite it.
-- The tables of words that dates know, by name; what they are for, is said by `Dates`.
use Rattle.std.specs.Prelude.{ℕ, List, Option, codes}
use Rattle.ged_value.specs.Words.{Bytes, words_of}
use Rattle.ged_value.specs.Dates.{french_r, greatest_day}

-- the words of the standard's calendars
abbrev pub calendar_words : List Bytes
calendar_words = words_of (codes "GREGORIAN JULIAN FRENCH_R HEBREW")

-- the words that stand before a date or between two
abbrev pub keywords : List Bytes
keywords = words_of (codes "FROM TO BET AND BEF AFT ABT CAL EST")

-- the months of 31 days of the Gregorian and the Julian calendar
abbrev pub months_of_31 : List Bytes
months_of_31 = words_of (codes "JAN MAR MAY JUL AUG OCT DEC")

-- the months of 30 days of the Gregorian and the Julian calendar
abbrev pub months_of_30 : List Bytes
months_of_30 = words_of (codes "APR JUN SEP NOV")

-- the months of 30 days of the French Republican calendar
abbrev pub french_months : List Bytes
french_months = words_of (codes "VEND BRUM FRIM NIVO PLUV VENT GERM FLOR PRAI MESS THER FRUC")

-- the greatest day of a month of the French Republican calendar
abbrev pub french_days : Bytes → Option ℕ
french_days month = greatest_day french_r month

-- the months of the Hebrew calendar
abbrev pub hebrew_months : List Bytes
hebrew_months = words_of (codes "TSH CSH KSL TVT SHV ADR ADS NSN IYR SVN TMZ AAV ELL")
