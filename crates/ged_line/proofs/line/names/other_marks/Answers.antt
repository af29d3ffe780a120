use Rattle.std.proofs.Common.{arith}
use Rattle.ged_line.proofs.line.NameMarks.{others_of_run}
use Rattle.ged_line.proofs.line.names.other_marks.Goals as goal

pub returns : goal.returns
returns c = others_of_run 8 c.args.bytes.now c.requires (omega arith)
