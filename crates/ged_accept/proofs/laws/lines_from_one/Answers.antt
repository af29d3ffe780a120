use Rattle.ged_accept.proofs.laws.LineNumbers.{lines_from_one}
use Rattle.ged_accept.proofs.laws.lines_from_one.Goals as goal

pub returns : goal.returns
returns c = lines_from_one
