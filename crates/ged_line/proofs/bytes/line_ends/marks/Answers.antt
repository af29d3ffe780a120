use Rattle.std.proofs.Common.{arith}
use Rattle.ged_line.proofs.bytes.LineEnds.{marks_of_run}
use Rattle.ged_line.proofs.bytes.line_ends.marks.Goals as goal

pub returns : goal.returns
returns c = marks_of_run 13 10 c.args.at 32 c.args.bytes.now c.requires (omega arith)
