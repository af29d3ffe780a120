use Rattle.std.proofs.Common.{sym, ◌∙◌}
use Rattle.std.proofs.lemmas.Bool.{false≢true}
use Rattle.ged_canon.proofs.writer.UseTests.{tells_used, tells_unused}
use Rattle.ged_canon.proofs.writer.siblings.if_used.Goals as goal

pub returns-then-is_used : goal.returns-then-is_used
returns-then-is_used c d xref is here = tells_used d c.args.number xref here ((c.is_used.ensures d is).0 c.if-is_used.true)

pub returns-else-is_used : goal.returns-else-is_used
returns-else-is_used c d xref is here = tells_unused d c.args.number xref here (λ used. false≢true (sym c.if-is_used.false ∙ (c.is_used.ensures d is).1 used))
