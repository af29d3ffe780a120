use Rattle.std.proofs.Common.{inr, sym, subst}
use Rattle.ged_line.specs.Pieces.{HasNoEnd}
use Rattle.ged_line.proofs.bytes.Cutting.{HasNoEnd-whole}
use Rattle.ged_line.proofs.file.WholeLines.{EndsLine-taken, HasNoEnd-dropped}
use Rattle.ged_line.proofs.file.whole_lines.split_whole.Goals as goal

pub returns-in-Some-clause-whole : goal.returns-in-Some-clause-whole
returns-in-Some-clause-whole c =
    inr (EndsLine-taken c.args.bytes.now c.split_at.result.0.now c.in-Some.last c.in-Some.ensures.0.high c.in-Some.ensures.1 c.split_at.ensures.front)

pub returns-in-Some-clause-waiting : goal.returns-in-Some-clause-waiting
returns-in-Some-clause-waiting c =
    HasNoEnd-dropped c.args.bytes.now c.split_at.result.1.now c.in-Some.last c.in-Some.ensures.0.after c.split_at.ensures.back

pub returns-in-None-clause-waiting : goal.returns-in-None-clause-waiting
returns-in-None-clause-waiting c = subst HasNoEnd (sym c.split_at-in-None.ensures.back) (HasNoEnd-whole c.args.bytes.now c.in-None.ensures)
