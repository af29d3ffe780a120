-- Nothing here need be believed: only private contracts and proofs cite it.
-- Parts of steps, by names of their own.
use Rattle.std.specs.Prelude.{Bool, List, Option, map}
use Rattle.std.specs.Option.{option_map}
use Rattle.ged_line.specs.Bytes.{Bytes}
use Rattle.ged_tree.specs.declared.payload.Payload.{Payload}
use Rattle.ged_tree.specs.Trees.{Structure}
use Rattle.ged_value.specs.ZeroKinds.{has_integers}
use Rattle.ged_schema.specs.Rows.{Row}
use Rattle.ged_canon.specs.Steps.{has_calendar, has_kind, renamed_payload}

-- the row has a kind of dates that may name a calendar
abbrev pub is_dated : Option Row → Bool
is_dated r = has_kind has_calendar r

-- the row has a kind with Integers
abbrev pub is_numeric : Option Row → Bool
is_numeric r = has_kind has_integers r

abbrev pub renamed_xref : (Bytes → Bytes) → Option Bytes → Option Bytes
renamed_xref new xref = option_map new xref

-- the old names of pairs, and the new ones
abbrev pub olds : List (Bytes × Bytes) → List Bytes
olds pairs = map (λ pair. pair.0) pairs

abbrev pub news : List (Bytes × Bytes) → List Bytes
news pairs = map (λ pair. pair.1) pairs

-- the structure with another payload
abbrev pub with_payload : Structure → Payload → Structure
with_payload s payload = record s { payload = payload }

-- the structure with another identifier, or none
abbrev pub with_identifier : Structure → Option Bytes → Structure
with_identifier s xref = record s { xref = xref }

abbrev pub renamed_structure : (Bytes → Bytes) → Structure → Structure
renamed_structure new s = record s { xref = option_map new s.xref; payload = renamed_payload new s.payload }
