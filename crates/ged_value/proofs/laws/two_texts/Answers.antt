use Rattle.ged_value.proofs.DefaultLaws.{two_texts}
use Rattle.ged_value.proofs.laws.two_texts.Goals as goal

pub returns : goal.returns
returns c = two_texts
