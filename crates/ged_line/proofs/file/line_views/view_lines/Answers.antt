use Rattle.std.proofs.Common.{sym, subst, ◌++◌}
use Rattle.ged_line.specs.Pieces.{AreCutInto, pieces_of}
use Rattle.ged_line.proofs.bytes.Cutting.{are_cut}
use Rattle.ged_line.proofs.file.FileLaws.{length-ArePiecesOf}
use Rattle.ged_line.proofs.bytes.WholeBlocks.{none_before}
use Rattle.ged_line.proofs.file.line_views.view_lines.Goals as goal

pub returns-clause-pieces : goal.returns-clause-pieces
returns-clause-pieces c =
    let rest = c.behind_mark.result.now in
    (rest, c.behind_mark.ensures, subst (AreCutInto rest) (sym (none_before c.cut_pieces.result (pieces_of rest) c.cut_pieces.ensures)) (are_cut rest))

pub returns-clause-count : goal.returns-clause-count
returns-clause-count c = length-ArePiecesOf c.args.bytes.now (c.cut_pieces.result ++ pieces_of c.behind_mark.result.now) (returns-clause-pieces c)
