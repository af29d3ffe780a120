-- The year of a date value (FamilySearch GEDCOM 7.0, "Date").
use Rattle.std.specs.Prelude.{Option, Some, None}
use Rattle.ged_value.specs.Words.{Bytes}
use Rattle.ged_value.specs.Values.{ValueParts, plain, about}

-- the year of a date without a keyword or behind ABT, as it is spelled; other date values are given none
abbrev pub year_in : ValueParts → Option Bytes
year_in (plain date) = Some date.year
year_in (about date) = Some date.year
year_in _ = None
