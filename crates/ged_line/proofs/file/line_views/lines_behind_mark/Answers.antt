use Rattle.ged_line.specs.Pieces.{pieces_of}
use Rattle.ged_line.proofs.bytes.WholeBlocks.{none_before}
use Rattle.ged_line.proofs.file.line_views.lines_behind_mark.Goals as goal

pub returns : goal.returns
returns c = none_before c.cut_pieces.result (pieces_of c.args.bytes.now) c.cut_pieces.ensures
