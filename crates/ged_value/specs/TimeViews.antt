-- What contracts see of a time, without where its parts lie in memory.
use Rattle.std.specs.Option.{option_map}
use Rattle.ged_value.specs.Texts.{bytes_of}
use Rattle.ged_value.specs.Times.{TimeParts}
use Rattle.ged_value.specs.declared.time.Time.{Time}

abbrev pub time_parts : Time → TimeParts
time_parts t = record {
  hour = bytes_of t.hour;
  minute = bytes_of t.minute;
  second = option_map bytes_of t.second;
  fraction = option_map bytes_of t.fraction;
  utc = t.utc;
}
