-- Periods and date values: their parts, and the words that spell them (FamilySearch GEDCOM 7.0, "Date").
use Rattle.std.specs.Prelude.{◌≡◌, List, [], ◌∷◌, ◌++◌, codes}
use Rattle.ged_value.specs.Words.{Bytes, joined}
use Rattle.ged_value.specs.Dates.{DateParts, SpellsDate}

-- the parts of a period: its start, its end, both or none
pub data PeriodParts : Type 0 where
  empty : PeriodParts
  to : DateParts → PeriodParts
  from : DateParts → PeriodParts
  from_to : DateParts → DateParts → PeriodParts

-- the parts of a date value: a period, or one or two dates with what their keywords say
pub data ValueParts : Type 0 where
  span : PeriodParts → ValueParts
  plain : DateParts → ValueParts
  between : DateParts → DateParts → ValueParts
  after : DateParts → ValueParts
  before : DateParts → ValueParts
  about : DateParts → ValueParts
  calculated : DateParts → ValueParts
  estimated : DateParts → ValueParts

-- the words are a keyword and a date
abbrev pub Behind : Bytes → DateParts → List Bytes → Type 0
Behind keyword d words = (date : List Bytes) × SpellsDate d date × (words ≡ keyword ∷ date)

-- the words are two dates, each behind a keyword
abbrev pub BothBehind : Bytes → DateParts → Bytes → DateParts → List Bytes → Type 0
BothBehind first d second e words =
    (left : List Bytes) × (right : List Bytes) × SpellsDate d left × SpellsDate e right
    × (words ≡ first ∷ (left ++ (second ∷ right)))

-- the words spell the period; the empty text has one word, which is empty
abbrev pub SpellsPeriod : PeriodParts → List Bytes → Type 0
SpellsPeriod empty words = words ≡ codes "" ∷ []
SpellsPeriod (to d) words = Behind (codes "TO") d words
SpellsPeriod (from d) words = Behind (codes "FROM") d words
SpellsPeriod (from_to d e) words = BothBehind (codes "FROM") d (codes "TO") e words

-- the words spell the date value
abbrev pub SpellsValue : ValueParts → List Bytes → Type 0
SpellsValue (span period) words = SpellsPeriod period words
SpellsValue (plain d) words = SpellsDate d words
SpellsValue (between d e) words = BothBehind (codes "BET") d (codes "AND") e words
SpellsValue (after d) words = Behind (codes "AFT") d words
SpellsValue (before d) words = Behind (codes "BEF") d words
SpellsValue (about d) words = Behind (codes "ABT") d words
SpellsValue (calculated d) words = Behind (codes "CAL") d words
SpellsValue (estimated d) words = Behind (codes "EST") d words

-- the text spells the period: it is words that do, with single spaces between them
abbrev pub PeriodText : PeriodParts → Bytes → Type 0
PeriodText period text = (words : List Bytes) × SpellsPeriod period words × (text ≡ joined words)

-- the text spells the date value
abbrev pub DateValueText : ValueParts → Bytes → Type 0
DateValueText value text = (words : List Bytes) × SpellsValue value words × (text ≡ joined words)
