use Rattle.std.proofs.Common.{◌∙◌, rules}
use Rattle.ged_tool.proofs.runs.Writing.{AreWritten-more, AreWritten-stops}
use Rattle.ged_tool.proofs.runs.written.write_parts.Goals as goal

pub returns-in-Err-clause-err : goal.returns-in-Err-clause-err
returns-in-Err-clause-err g c =
    let (failed, written, took, starts) = c.in-Err.ensures.err in
    let (all, went, begins) =
    AreWritten-stops _ _ _ c.args.parts.now c.loop-part.part-index c.part-item.result written c.loop-part-test.true (search rules) took
    (rw c.deref.ensures.value at starts) c.loop-part.invariant.2 in
    (failed, all, went, begins)

pub loop-part-preserved : goal.loop-part-preserved
loop-part-preserved g c = (
  c.in-Ok.ensures.ok.0,
  c.in-Ok.ensures.fate ∙ c.loop-part.invariant.1,
  AreWritten-more _ _ _ c.args.parts.now c.loop-part.part-index c.part-item.result c.loop-part-test.true (search rules)
      (rw c.deref.ensures.value at c.in-Ok.ensures.ok.1) c.loop-part.invariant.2,
)
