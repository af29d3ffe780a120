-- The parts that a date shows, apart from how it is stored.
use Rattle.std.specs.Option.{option_map}
use Rattle.ged_value.specs.Texts.{bytes_of}
use Rattle.ged_value.specs.Dates.{CalendarName, gregorian, julian, french_r, hebrew, extension, DateParts}
use Rattle.ged_value.specs.declared.date.Calendar.{Calendar}
use Rattle.ged_value.specs.declared.date.Calendar.TheVariants.{Gregorian, Julian, FrenchR, Hebrew, Extension}
use Rattle.ged_value.specs.declared.date.Date.{Date}

-- the calendar, with its tag as bytes
abbrev pub calendar_name : Calendar → CalendarName
calendar_name Gregorian = gregorian
calendar_name Julian = julian
calendar_name FrenchR = french_r
calendar_name Hebrew = hebrew
calendar_name (Extension tag) = extension tag.now

-- the parts of a date, as bytes
abbrev pub date_parts : Date → DateParts
date_parts d = record {
  calendar = calendar_name d.calendar;
  day = option_map bytes_of d.day;
  month = option_map bytes_of d.month;
  year = bytes_of d.year;
  epoch = option_map bytes_of d.epoch;
}
