use Rattle.std.proofs.Common.{◌≡◌, sym, ◌∙◌, ap, true}
use Rattle.ged_line.specs.Characters.{has_banned}
use Rattle.ged_line.proofs.line.Scans.{not_utf8, banned_character}
use Rattle.ged_line.proofs.line.read.spelled_line.Goals as goal

pub returns-in_default : goal.returns-in_default
returns-in_default c = not_utf8 c.args.piece.now c.in_default.ensures

pub returns-then-has_banned : goal.returns-then-has_banned
returns-then-has_banned c =
    let banned : has_banned c.args.piece.now ≡ true = ap has_banned (sym c.in-Ok.ensures.0) ∙ sym c.if-has_banned.ensures in
    banned_character c.args.piece.now c.in-Ok.ensures.1 banned
