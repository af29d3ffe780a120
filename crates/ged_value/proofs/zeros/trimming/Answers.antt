use Rattle.ged_value.proofs.ZeroWords.{trimming as law}
use Rattle.ged_value.proofs.zeros.trimming.Goals as goal

pub returns : goal.returns
returns c = law
