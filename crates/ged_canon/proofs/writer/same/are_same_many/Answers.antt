use Rattle.std.proofs.Common.{◌-◌, length, arith}
use Rattle.ged_canon.proofs.writer.SameRuns.{same_more, same_ends}
use Rattle.ged_canon.proofs.writer.same.are_same_many.Goals as goal

pub loop-at-preserved : goal.loop-at-preserved
loop-at-preserved c = record {
  within = omega (arith, c.loop-at-test.true);
  same = same_more c.args.text.now c.args.other.now c.loop-at.at 16 c.loop-at.invariant.same (c.is_same_run.ensures c.if-not-is_same_run.false);
}

pub returns : goal.returns
returns c = λ set.
    let last = length c.args.text.now - 16 in
    same_ends c.args.text.now c.args.other.now c.loop-at.at last 16 (omega (arith, c.loop-at-test.false)) (omega (arith, c.requires.many)) (omega (arith, c.requires.many, c.requires.alike))
    c.loop-at.invariant.same (c.is_same_run-2.ensures set)
