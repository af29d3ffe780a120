-- The parts that an age shows, apart from how it is stored.
use Rattle.std.specs.Option.{option_map}
use Rattle.ged_value.specs.Texts.{bytes_of}
use Rattle.ged_value.specs.Ages.{Sign, less, greater, AgeParts}
use Rattle.ged_value.specs.declared.age.Age.{Age}
use Rattle.ged_value.specs.declared.age.Bound.{Bound}
use Rattle.ged_value.specs.declared.age.Bound.TheVariants.{Less, Greater}

-- the sign of a bound
abbrev pub sign_name : Bound → Sign
sign_name Less = less
sign_name Greater = greater

-- the parts of an age, as bytes
abbrev pub age_parts : Age → AgeParts
age_parts a = record {
  bound = option_map sign_name a.bound;
  years = option_map bytes_of a.years;
  months = option_map bytes_of a.months;
  weeks = option_map bytes_of a.weeks;
  days = option_map bytes_of a.days;
}
