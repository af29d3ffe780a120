use Rattle.std.proofs.Common.{arith}
use Rattle.ged_canon.proofs.writer.LetterRuns.{run_has}
use Rattle.ged_canon.proofs.writer.letters.has_g_in_run.Goals as goal

pub returns : goal.returns
returns c = run_has c.args.bytes.now c.args.at (omega (arith, c.requires))
