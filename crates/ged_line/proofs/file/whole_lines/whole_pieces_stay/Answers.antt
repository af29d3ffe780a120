use Rattle.ged_line.proofs.file.WholeLines.{whole_stay}
use Rattle.ged_line.proofs.file.whole_lines.whole_pieces_stay.Goals as goal

pub returns : goal.returns
returns c = whole_stay
