-- The Integers among the parts of a value (FamilySearch GEDCOM 7.0, "Integer"): their list, in the order in which a text has
-- them, and the parts with the leading zeros of each of them left out.
use Rattle.std.specs.Prelude.{◌≡◌, List, [], ◌∷◌, ◌++◌, IsTrue}
use Rattle.std.specs.Option.{option_map, option_to_list}
use Rattle.ged_value.specs.Words.{Bytes, is_integer}
use Rattle.ged_value.specs.Zeros.{trim_zeros}
use Rattle.ged_value.specs.Dates.{DateParts}
use Rattle.ged_value.specs.Values.{PeriodParts, empty, to, from, from_to, ValueParts, span, plain, between, after, before, about, calculated, estimated}
use Rattle.ged_value.specs.Exact.{ExactParts}
use Rattle.ged_value.specs.Ages.{AgeParts, duration_words}

-- of a date: its day, if it has one, and its year
abbrev pub date_integers : DateParts → List Bytes
date_integers d = option_to_list d.day ++ (d.year ∷ [])

abbrev pub trimmed_date : DateParts → DateParts
trimmed_date d = record { calendar = d.calendar; day = option_map trim_zeros d.day; month = d.month; year = trim_zeros d.year; epoch = d.epoch }

-- of a period: those of its dates
abbrev pub period_integers : PeriodParts → List Bytes
period_integers empty = []
period_integers (to d) = date_integers d
period_integers (from d) = date_integers d
period_integers (from_to d e) = date_integers d ++ date_integers e

abbrev pub trimmed_period : PeriodParts → PeriodParts
trimmed_period empty = empty
trimmed_period (to d) = to (trimmed_date d)
trimmed_period (from d) = from (trimmed_date d)
trimmed_period (from_to d e) = from_to (trimmed_date d) (trimmed_date e)

-- of a date value: those of its dates
abbrev pub value_integers : ValueParts → List Bytes
value_integers (span p) = period_integers p
value_integers (plain d) = date_integers d
value_integers (between d e) = date_integers d ++ date_integers e
value_integers (after d) = date_integers d
value_integers (before d) = date_integers d
value_integers (about d) = date_integers d
value_integers (calculated d) = date_integers d
value_integers (estimated d) = date_integers d

abbrev pub trimmed_value : ValueParts → ValueParts
trimmed_value (span p) = span (trimmed_period p)
trimmed_value (plain d) = plain (trimmed_date d)
trimmed_value (between d e) = between (trimmed_date d) (trimmed_date e)
trimmed_value (after d) = after (trimmed_date d)
trimmed_value (before d) = before (trimmed_date d)
trimmed_value (about d) = about (trimmed_date d)
trimmed_value (calculated d) = calculated (trimmed_date d)
trimmed_value (estimated d) = estimated (trimmed_date d)

-- of an exact date: its day and its year
abbrev pub exact_integers : ExactParts → List Bytes
exact_integers e = e.day ∷ e.year ∷ []

abbrev pub trimmed_exact : ExactParts → ExactParts
trimmed_exact e = record { day = trim_zeros e.day; month = e.month; year = trim_zeros e.year }

-- of an age: its words that begin with a number, each an Integer with its letter straight behind it
abbrev pub age_integers : AgeParts → List Bytes
age_integers a = duration_words a

abbrev pub trimmed_age : AgeParts → AgeParts
trimmed_age a = record {
  bound = a.bound;
  years = option_map trim_zeros a.years;
  months = option_map trim_zeros a.months;
  weeks = option_map trim_zeros a.weeks;
  days = option_map trim_zeros a.days;
}

-- a text that is nothing but an Integer spells its digits
abbrev pub IntegerText : Bytes → Bytes → Type 0
IntegerText digits text = IsTrue (is_integer digits) × (text ≡ digits)

abbrev pub integer_alone : Bytes → List Bytes
integer_alone digits = digits ∷ []
