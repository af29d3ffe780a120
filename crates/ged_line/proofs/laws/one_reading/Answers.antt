use Rattle.ged_line.proofs.file.FileLaws.{one_reading as law}
use Rattle.ged_line.proofs.laws.one_reading.Goals as goal

pub returns : goal.returns
returns c = law
