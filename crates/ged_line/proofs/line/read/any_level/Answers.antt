use Rattle.std.proofs.Common.{sym, arith}
use Rattle.ged_line.proofs.line.QuickReading.{level_digits}
use Rattle.ged_line.proofs.line.read.any_level.Goals as goal

pub returns-in-49-to-57 : goal.returns-in-49-to-57
returns-in-49-to-57 c = rw (c.as_bytes.ensures.value)
    (level_digits c.args.text.now (rw (sym c.as_bytes.ensures.value) (omega arith)) (rw (sym c.as_bytes.ensures.value) (omega arith))
    (rw (sym c.as_bytes.ensures.value) (omega arith)) (rw (sym c.as_bytes.ensures.value) (omega arith))
    (rw (sym c.as_bytes.ensures.value) (omega arith)) (rw (sym c.as_bytes.ensures.value) (omega arith)))
