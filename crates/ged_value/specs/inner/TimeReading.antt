-- Nothing here need be believed: only private contracts and proofs cite it.
-- How times are read: the one answer of the private functions.
use Rattle.std.specs.Prelude.{Bool, true, false, [], ◌∷◌, Option, Some, None, if◌then◌else◌, codes}
use Rattle.ged_value.specs.Words.{Bytes}
use Rattle.ged_value.specs.inner.Cuts.{cut_at}
use Rattle.ged_value.specs.Times.{TimeParts, is_time}

abbrev pub if_time : TimeParts → Option TimeParts
if_time t = if is_time t then Some t else None

-- the second and its fraction
abbrev pub second_at : Option Bytes → Option Bytes × Option Bytes
second_at None = (None, None)
second_at (Some text) = (Some (cut_at 46 text).0, (cut_at 46 text).1)

abbrev pub minute_at : Bool → Bytes → Option Bytes → Option TimeParts
minute_at utc hour None = None
minute_at utc hour (Some text) = if_time (record {
  hour = hour;
  minute = (cut_at 58 text).0;
  second = (second_at (cut_at 58 text).1).0;
  fraction = (second_at (cut_at 58 text).1).1;
  utc = utc;
})

abbrev pub clock_at : Bool → Bytes → Option TimeParts
clock_at utc text = minute_at utc (cut_at 58 text).0 (cut_at 58 text).1

-- `Z` for UTC
abbrev pub zone : Bool → Bytes
zone utc = if utc then codes "Z" else []

abbrev pub zone_at : Bytes → Option Bytes → Option TimeParts
zone_at text None = clock_at false text
zone_at text (Some []) = clock_at true text
zone_at text (Some (b ∷ bs)) = None

abbrev pub time_at : Bytes → Option TimeParts
time_at text = zone_at (cut_at 90 text).0 (cut_at 90 text).1
