-- What contracts see of an exact date, without where its parts lie in memory.
use Rattle.ged_value.specs.Texts.{bytes_of}
use Rattle.ged_value.specs.Exact.{ExactParts}
use Rattle.ged_value.specs.declared.exact.ExactDate.{ExactDate}

abbrev pub exact_parts : ExactDate → ExactParts
exact_parts e = record { day = bytes_of e.day; month = bytes_of e.month; year = bytes_of e.year }
