use Rattle.ged_line.proofs.file.WholeLines.{first_pieces, later_pieces}
use Rattle.ged_line.proofs.file.whole_lines.further_lines.Goals as goal

pub returns-in-None : goal.returns-in-None
returns-in-None c = first_pieces c.args.front.now c.args.more.now c.view_lines.result c.requires c.in-None.ensures.value c.view_lines.ensures.pieces

pub returns-in-Some : goal.returns-in-Some
returns-in-Some c =
    later_pieces c.args.front.now c.args.more.now c.behind_end.result.now c.lines_behind_mark.result c.in-Some.last.now c.requires c.in-Some.ensures.value
    c.behind_end.ensures c.lines_behind_mark.ensures
