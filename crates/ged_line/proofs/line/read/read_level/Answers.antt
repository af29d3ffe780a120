use Rattle.std.proofs.Common.{inr, refl, sym}
use Rattle.ged_line.proofs.line.Levels.{level_one, level_two, level_many}
use Rattle.ged_line.proofs.line.read.read_level.Goals as goal

pub returns-in-len1 : goal.returns-in-len1
returns-in-len1 c = level_one c.args.digits.now c.in-len1.len_at_least c.in-len1.len_below (sym c.if-not-is_level.ensures)

pub returns-in-len2 : goal.returns-in-len2
returns-in-len2 c = level_two c.args.digits.now c.in-len2.len_at_least c.in-len2.len_below (sym c.if-not-is_level.ensures)

pub returns-in_default-2 : goal.returns-in_default-2
returns-in_default-2 c =
    let level = sym c.if-not-is_level.ensures in
    inr (refl, level, level_many c.args.digits.now c.in_default.len_at_least level)
