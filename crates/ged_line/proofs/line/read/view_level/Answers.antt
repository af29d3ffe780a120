use Rattle.std.proofs.Common.{sym, arith}
use Rattle.std.proofs.lemmas.Str.{IsCharBoundary-after_ascii}
use Rattle.ged_line.proofs.line.QuickReading.{level_digit}
use Rattle.ged_line.proofs.line.read.view_level.Goals as goal

pub range_from-requires : goal.range_from-requires
range_from-requires c =
    let text = c.args.text.now in
    λ l. IsCharBoundary-after_ascii text 1 c.utf8.text (rw (sym c.as_bytes.ensures.value) (omega arith)) (rw (sym c.as_bytes.ensures.value) (omega arith))

pub returns-in-48-to-57 : goal.returns-in-48-to-57
returns-in-48-to-57 c = rw (c.as_bytes.ensures.value, c.range_from.ensures.value)
    (level_digit c.args.text.now (rw (sym c.as_bytes.ensures.value) (omega arith)) (rw (sym c.as_bytes.ensures.value) (omega arith))
    (rw (sym c.as_bytes.ensures.value) (omega arith)) (rw (sym c.as_bytes.ensures.value) (omega arith)))
