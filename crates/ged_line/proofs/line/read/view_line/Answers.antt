use Rattle.ged_line.proofs.line.LineLaws.{only_line, none_at_line}
use Rattle.ged_line.proofs.line.read.view_line.Goals as goal

pub returns-clause-only : goal.returns-clause-only
returns-clause-only c = only_line c.scan_line.result c.args.piece.now c.scan_line.ensures

pub returns-clause-none : goal.returns-clause-none
returns-clause-none c = none_at_line c.scan_line.result c.args.piece.now c.scan_line.ensures
