-- Nothing here need be believed: only private contracts and proofs cite it.
-- The last line of a document.
use Rattle.std.specs.Prelude.{None, codes}
use Rattle.ged_line.specs.Lines.{LineParts, line_parts, Empty}

abbrev pub trailer_line : LineParts
trailer_line = line_parts 0 None (codes "TRLR") Empty
