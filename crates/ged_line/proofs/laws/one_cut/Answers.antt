use Rattle.ged_line.proofs.file.FileLaws.{one_cut as law}
use Rattle.ged_line.proofs.laws.one_cut.Goals as goal

pub returns : goal.returns
returns c = law
