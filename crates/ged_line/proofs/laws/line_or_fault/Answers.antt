use Rattle.ged_line.proofs.line.LineLaws.{line_or_faulty}
use Rattle.ged_line.proofs.laws.line_or_fault.Goals as goal

pub returns : goal.returns
returns c = line_or_faulty c.view_line.result c.args.piece.now c.view_line.ensures.found c.view_line.ensures.fault
