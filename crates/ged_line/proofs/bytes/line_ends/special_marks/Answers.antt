use Rattle.std.proofs.Common.{arith}
use Rattle.ged_line.proofs.bytes.LineEnds.{special_marks_of_run}
use Rattle.ged_line.proofs.bytes.line_ends.special_marks.Goals as goal

pub returns : goal.returns
returns c = special_marks_of_run c.args.at 32 c.args.bytes.now c.requires (omega arith)
