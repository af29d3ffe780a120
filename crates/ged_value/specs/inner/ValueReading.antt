-- Nothing here need be believed: only private contracts and proofs cite it.
-- The code of src/value.rt that reads periods and date values from words, as definitions. Only private functions speak
-- of these; what a period and a date value are, is said by `Values`.
use Rattle.std.specs.Prelude.{List, [], ◌∷◌, ◌||◌, ◌==◌, length, Option, Some, None, if◌then◌else◌, codes}
use Rattle.std.specs.Option.{option_map}
use Rattle.std.specs.Str.{bytes_eq}
use Rattle.ged_value.specs.Words.{Bytes}
use Rattle.ged_value.specs.inner.WordReading.{around}
use Rattle.ged_value.specs.Dates.{DateParts}
use Rattle.ged_value.specs.inner.DateReading.{date_at}
use Rattle.ged_value.specs.declared.value.Keyword.{Keyword}
use Rattle.ged_value.specs.declared.value.Keyword.TheVariants.{After, Before, About, Calculated, Estimated}
use Rattle.ged_value.specs.Values.{PeriodParts, empty, to, from, from_to, ValueParts, span, plain, between, after, before, about, calculated, estimated}

-- two dates, which spell the two parts
abbrev pub both_dates : Option DateParts → Option DateParts → Option (DateParts × DateParts)
both_dates (Some d) (Some e) = Some (d, e)
both_dates (Some d) None = None
both_dates None e = None

-- the dates on both sides, if there are two sides
abbrev pub dates_at : Option (List Bytes × List Bytes) → Option (DateParts × DateParts)
dates_at None = None
dates_at (Some parts) = both_dates (date_at parts.0) (date_at parts.1)

-- behind FROM: one date, or two with a TO between them
abbrev pub from_at : List Bytes → Option (List Bytes × List Bytes) → Option PeriodParts
from_at words None = option_map from (date_at words)
from_at words (Some parts) =
    option_map (λ dates. from_to dates.0 dates.1) (both_dates (date_at parts.0) (date_at parts.1))

-- the period of the words behind FROM
abbrev pub period_from : List Bytes → Option PeriodParts
period_from words = from_at words (around (codes "TO") words)

-- the period that the words spell
abbrev pub period_at : List Bytes → Option PeriodParts
period_at [] = None
period_at (w ∷ ws) =
    if bytes_eq w (codes "TO") then option_map to (date_at ws)
    else (if bytes_eq w (codes "FROM") then period_from ws
    else (if bytes_eq w [] then (if length ws == 0 then Some empty else None)
    else None))

-- the keyword that the word is, one that stands before a single date
abbrev pub keyword_at : Bytes → Option Keyword
keyword_at w =
    if bytes_eq w (codes "AFT") then Some After
    else (if bytes_eq w (codes "BEF") then Some Before
    else (if bytes_eq w (codes "ABT") then Some About
    else (if bytes_eq w (codes "CAL") then Some Calculated
    else (if bytes_eq w (codes "EST") then Some Estimated
    else None))))

-- the date value of a keyword and the date behind it
abbrev pub behind : Keyword → DateParts → ValueParts
behind After d = after d
behind Before d = before d
behind About d = about d
behind Calculated d = calculated d
behind Estimated d = estimated d

-- the date value of a first word, which may be such a keyword, and the words behind it
abbrev pub value_behind : Option Keyword → Bytes → List Bytes → Option ValueParts
value_behind (Some k) w ws = option_map (behind k) (date_at ws)
value_behind None w ws =
    if bytes_eq w (codes "BET") then option_map (λ dates. between dates.0 dates.1) (dates_at (around (codes "AND") ws))
    else (if bytes_eq w [] || (bytes_eq w (codes "TO") || bytes_eq w (codes "FROM"))
    then option_map span (period_at (w ∷ ws))
    else option_map plain (date_at (w ∷ ws)))

-- the date value that the words spell
abbrev pub value_at : List Bytes → Option ValueParts
value_at [] = None
value_at (w ∷ ws) = value_behind (keyword_at w) w ws
