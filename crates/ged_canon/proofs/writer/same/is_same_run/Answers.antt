use Rattle.std.proofs.Common.{arith}
use Rattle.std.proofs.lemmas.Bool.Decides.{nat_tests}
use Rattle.ged_canon.proofs.writer.SameRuns.{same_run}
use Rattle.ged_canon.proofs.writer.same.is_same_run.Goals as goal

pub returns : goal.returns
returns c = λ set.
    same_run c.args.text.now c.args.other.now c.args.at (omega (arith, c.requires.first)) (omega (arith, c.requires.second)) (grind (arith, nat_tests, set))
