use Rattle.ged_line.proofs.file.FileLaws.{LineText-spelling as law}
use Rattle.ged_line.proofs.laws.spelling_spells.Goals as goal

pub returns : goal.returns
returns c = law
