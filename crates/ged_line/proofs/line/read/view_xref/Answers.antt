use Rattle.std.proofs.Common.{sym, arith}
use Rattle.std.proofs.lemmas.Str.{IsCharBoundary-after_ascii}
use Rattle.ged_line.proofs.line.read.view_xref.Goals as goal

pub range_from-requires : goal.range_from-requires
range_from-requires c =
    λ l. IsCharBoundary-after_ascii c.args.text.now 0 c.utf8.text (rw (sym c.as_bytes.ensures.value) (omega arith)) (rw (sym c.as_bytes.ensures.value) (omega arith))
