-- Dates: their parts, and the words that spell them (FamilySearch GEDCOM 7.0, "Date").
use Rattle.std.specs.Prelude.{◌≡◌, ℕ, Bool, true, false, List, ◌∷◌, ◌++◌, ◌&&◌, ◌||◌, ◌⊎◌, Option, Some, None, is_some, is_none, IsTrue, not, nat_le, if◌then◌else◌, codes}
use Rattle.std.specs.Option.{option_map_or, option_to_list}
use Rattle.std.specs.Str.{bytes_eq}
use Rattle.ged_value.specs.Words.{Bytes, words_of, is_one_of, is_integer, is_standard_tag, is_extension_tag, number}

-- one of the standard's calendars, or the one that an extension tag names
pub data CalendarName : Type 0 where
  gregorian : CalendarName
  julian : CalendarName
  french_r : CalendarName
  hebrew : CalendarName
  extension : Bytes → CalendarName

-- the parts of a date, each as its text
pub record DateParts : Type 0 where
  pub calendar : CalendarName
  pub day : Option Bytes
  pub month : Option Bytes
  pub year : Bytes
  pub epoch : Option Bytes

-- the word that names a calendar
abbrev pub calendar_word : CalendarName → Bytes
calendar_word gregorian = codes "GREGORIAN"
calendar_word julian = codes "JULIAN"
calendar_word french_r = codes "FRENCH_R"
calendar_word hebrew = codes "HEBREW"
calendar_word (extension tag) = tag

-- a word that is no month of an extension's calendar, as it has a meaning of its own: it stands before a date or between
-- two, names a calendar of the standard's, or is the word for an epoch
abbrev pub is_reserved : Bytes → Bool
is_reserved word = is_one_of (words_of (codes "FROM TO BET AND BEF AFT ABT CAL EST GREGORIAN JULIAN FRENCH_R HEBREW BCE")) word

-- the greatest day of a month of the Gregorian and the Julian calendar; leap years aren't looked at
abbrev pub roman_days : Bytes → Option ℕ
roman_days month =
    if is_one_of (words_of (codes "JAN MAR MAY JUL AUG OCT DEC")) month then Some 31
    else (if is_one_of (words_of (codes "APR JUN SEP NOV")) month then Some 30
    else (if bytes_eq (codes "FEB") month then Some 29
    else None))

-- The greatest day of a month, and None where the calendar has no such month. The six days that end the year of the French
-- Republican calendar are a month of it. Each Hebrew month is given 30 days, also those that have 29, and of an extension's
-- months no greatest day is known.
abbrev pub greatest_day : CalendarName → Bytes → Option ℕ
greatest_day gregorian month = roman_days month
greatest_day julian month = roman_days month
greatest_day french_r month =
    if is_one_of (words_of (codes "VEND BRUM FRIM NIVO PLUV VENT GERM FLOR PRAI MESS THER FRUC")) month then Some 30
    else (if bytes_eq (codes "COMP") month then Some 6
    else None)
greatest_day hebrew month = if is_one_of (words_of (codes "TSH CSH KSL TVT SHV ADR ADS NSN IYR SVN TMZ AAV ELL")) month then Some 30 else None
greatest_day (extension tag) month = None

-- the calendar has the month: any tag that isn't reserved may be a month of an extension's
abbrev pub is_month : CalendarName → Bytes → Bool
is_month (extension tag) month = is_extension_tag month || (is_standard_tag month && not (is_reserved month))
is_month calendar month = is_some (greatest_day calendar month)

-- the month has the day: a number from 1 to the greatest, where one is known
abbrev pub is_day : CalendarName → Bytes → Bytes → Bool
is_day calendar month day =
    is_integer day && (nat_le 1 (number day)
    && option_map_or (λ greatest. nat_le (number day) greatest) (greatest_day calendar month) true)

-- the calendar has the epoch; BCE is before the common era
abbrev pub is_epoch : CalendarName → Bytes → Bool
is_epoch gregorian epoch = bytes_eq (codes "BCE") epoch
is_epoch julian epoch = bytes_eq (codes "BCE") epoch
is_epoch (extension tag) epoch = bytes_eq (codes "BCE") epoch || is_extension_tag epoch
is_epoch _ epoch = false

-- the calendar is one of the standard's, or its tag is an extension tag
abbrev pub is_calendar : CalendarName → Bool
is_calendar (extension tag) = is_extension_tag tag
is_calendar _ = true

-- the calendar has the month, and the month the day; a day stands only with a month
abbrev pub is_day_and_month : CalendarName → Option Bytes → Option Bytes → Bool
is_day_and_month calendar day None = is_none day
is_day_and_month calendar day (Some month) = is_month calendar month && option_map_or (is_day calendar month) day true

-- the parts are those of a date
abbrev pub is_date : DateParts → Bool
is_date d =
    is_calendar d.calendar && (is_day_and_month d.calendar d.day d.month
    && (is_integer d.year && option_map_or (is_epoch d.calendar) d.epoch true))

-- the words of a date behind its calendar: a day, a month, the year and an epoch
abbrev pub date_words : DateParts → List Bytes
date_words d = option_to_list d.day ++ (option_to_list d.month ++ (d.year ∷ option_to_list d.epoch))

-- The words spell the date. The word of the Gregorian calendar may be left out.
abbrev pub SpellsDate : DateParts → List Bytes → Type 0
SpellsDate d words = IsTrue (is_date d)
    × ((words ≡ calendar_word d.calendar ∷ date_words d) ⊎ ((d.calendar ≡ gregorian) × (words ≡ date_words d)))
