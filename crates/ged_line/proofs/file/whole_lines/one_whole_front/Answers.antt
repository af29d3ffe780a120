use Rattle.ged_line.proofs.file.WholeLines.{one_whole}
use Rattle.ged_line.proofs.file.whole_lines.one_whole_front.Goals as goal

pub returns : goal.returns
returns c = one_whole
