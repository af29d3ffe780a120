use Rattle.ged_line.proofs.bytes.Cutting.{are_cut}
use Rattle.ged_line.proofs.file.pieces.cut_pieces.Goals as goal

pub returns : goal.returns
returns c = are_cut c.args.bytes.now
