use Rattle.std.proofs.Common.{arith, rules}
use Rattle.ged_schema.proofs.LineOpening.{closed_up_to, closed_everywhere}
use Rattle.ged_schema.proofs.Marking.{on_true}
use Rattle.ged_schema.proofs.line_walk.LineWalk.is_complete.Goals as goal

pub loop-level-preserved : goal.loop-level-preserved
loop-level-preserved c = closed_up_to c.args.self.now c.loop-level.level c.loop-level.invariant (on_true c.is_closed.result c.is_closed.ensures c.if-not-is_closed.false)

pub returns-clause-closed : goal.returns-clause-closed
returns-clause-closed c = closed_everywhere c.args.self.now (search rules) (λ level within. c.loop-level.invariant level (omega (arith, within, c.loop-level-test.false)))
