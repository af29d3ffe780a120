-- Nothing here need be believed: only private contracts and proofs cite it.
-- The code of src/date.rt that reads dates from words, as definitions. Only private functions speak of these; what a
-- date is, is said by `Dates`.
use Rattle.std.specs.Prelude.{option_and_then, List, [], ◌∷◌, Option, Some, None, if◌then◌else◌}
use Rattle.std.specs.Str.{bytes_eq}
use Rattle.ged_value.specs.Words.{Bytes, is_integer, is_extension_tag}
use Rattle.ged_value.specs.Dates.{CalendarName, gregorian, julian, french_r, hebrew, extension, DateParts, calendar_word, is_date}

-- the calendar of the standard that a word names
abbrev pub standard_calendar : Bytes → Option CalendarName
standard_calendar word =
    if bytes_eq word (calendar_word gregorian) then Some gregorian
    else (if bytes_eq word (calendar_word julian) then Some julian
    else (if bytes_eq word (calendar_word french_r) then Some french_r
    else (if bytes_eq word (calendar_word hebrew) then Some hebrew
    else None)))

-- the calendar that a word names, or else the extension that it is
abbrev pub or_extension : Option CalendarName → Bytes → Option CalendarName
or_extension (Some calendar) word = Some calendar
or_extension None word = if is_extension_tag word then Some (extension word) else None

-- the calendar that a word names
abbrev pub calendar_at : Bytes → Option CalendarName
calendar_at word = or_extension (standard_calendar word) word

-- the parts behind the calendar: a last word that is no number is the epoch
abbrev pub parts_at : CalendarName → List Bytes → Option DateParts
parts_at c (y ∷ []) = Some (record { calendar = c; day = None; month = None; year = y; epoch = None })
parts_at c (m ∷ y ∷ []) =
    if is_integer y then Some (record { calendar = c; day = None; month = Some m; year = y; epoch = None })
    else Some (record { calendar = c; day = None; month = None; year = m; epoch = Some y })
parts_at c (d ∷ m ∷ y ∷ []) =
    if is_integer y then Some (record { calendar = c; day = Some d; month = Some m; year = y; epoch = None })
    else Some (record { calendar = c; day = None; month = Some d; year = m; epoch = Some y })
parts_at c (d ∷ m ∷ y ∷ e ∷ []) = Some (record { calendar = c; day = Some d; month = Some m; year = y; epoch = Some e })
parts_at c _ = None

-- the parts, where they are those of a date
abbrev pub if_date : DateParts → Option DateParts
if_date d = if is_date d then Some d else None

-- the parts behind a first word, which may name the calendar
abbrev pub parts_behind : Option CalendarName → Bytes → List Bytes → Option DateParts
parts_behind None word words = parts_at gregorian (word ∷ words)
parts_behind (Some calendar) word words = parts_at calendar words

-- the date that the words spell
abbrev pub date_at : List Bytes → Option DateParts
date_at [] = None
date_at (word ∷ words) = option_and_then if_date (parts_behind (calendar_at word) word words)
