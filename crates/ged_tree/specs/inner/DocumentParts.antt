-- Nothing here need be believed: only private contracts and proofs cite it.
-- Parts of the test of a document, and of its lines, by names of their own.
use Rattle.std.specs.Prelude.{ℕ, Bool, true, ◌&&◌, ◌==◌, not, List, is_none, Option, None, codes, map}
use Rattle.std.specs.Option.{option_map_or}
use Rattle.std.specs.Str.{bytes_eq}
use Rattle.ged_line.specs.Bytes.{Bytes}
use Rattle.ged_line.specs.Lines.{LineParts, line_parts}
use Rattle.ged_line.specs.Names.{is_xref}
use Rattle.ged_tree.specs.Trees.{Structure}
use Rattle.ged_tree.specs.DocumentLines.{line_value}

-- only records carry a cross-reference identifier
abbrev pub is_xref_at : ℕ → Option Bytes → Bool
is_xref_at level xref = option_map_or (λ name. (level == 0) && is_xref name) xref true

-- HEAD and TRLR are no record's tags
abbrev pub is_record_tag : Bytes → Bool
is_record_tag tag = not (bytes_eq tag (codes "HEAD")) && not (bytes_eq tag (codes "TRLR"))

abbrev pub is_head : Structure → Bool
is_head s = bytes_eq s.tag (codes "HEAD") && is_none s.xref

-- one CONT line for each further line of a payload
abbrev pub continued : ℕ → List Bytes → List LineParts
continued level lines = map (λ line. line_parts level None (codes "CONT") (line_value line)) lines
