use Rattle.std.proofs.Common.{sym, ◌∙◌}
use Rattle.ged_line.proofs.line.Scans.{banned_character}
use Rattle.ged_line.proofs.file.line_views.first_line.Goals as goal

pub returns-then-has_banned-clause-line : goal.returns-then-has_banned-clause-line
returns-then-has_banned-clause-line c =
    let piece = c.cut_line-has_banned.result.piece.now in
    (piece, c.cut_line-has_banned.ensures.first, banned_character piece c.cut_line-has_banned.ensures.piece_utf8 (sym c.cut_line-has_banned.ensures.banned ∙ c.if-has_banned.true))
