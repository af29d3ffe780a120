-- The parts that periods and date values show, apart from how they are stored.
use Rattle.ged_value.specs.Views.{date_parts}
use Rattle.ged_value.specs.Values.{PeriodParts, empty, to, from, from_to, ValueParts, span, plain, between, after, before, about, calculated, estimated}
use Rattle.ged_value.specs.declared.value.Period.{Period}
use Rattle.ged_value.specs.declared.value.Period.TheVariants.{Empty, To, From, FromTo}
use Rattle.ged_value.specs.declared.value.DateValue.{DateValue}
use Rattle.ged_value.specs.declared.value.DateValue.TheVariants.{Span, Plain, Between, After, Before, About, Calculated, Estimated}

-- the parts of a period, as bytes
abbrev pub period_parts : Period → PeriodParts
period_parts Empty = empty
period_parts (To d) = to (date_parts d)
period_parts (From d) = from (date_parts d)
period_parts (FromTo d e) = from_to (date_parts d) (date_parts e)

-- the parts of a date value, as bytes
abbrev pub value_parts : DateValue → ValueParts
value_parts (Span p) = span (period_parts p)
value_parts (Plain d) = plain (date_parts d)
value_parts (Between d e) = between (date_parts d) (date_parts e)
value_parts (After d) = after (date_parts d)
value_parts (Before d) = before (date_parts d)
value_parts (About d) = about (date_parts d)
value_parts (Calculated d) = calculated (date_parts d)
value_parts (Estimated d) = estimated (date_parts d)
