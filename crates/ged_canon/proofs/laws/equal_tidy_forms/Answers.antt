use Rattle.ged_canon.proofs.theory.Tidy.{equal}
use Rattle.ged_canon.proofs.laws.equal_tidy_forms.Goals as goal

pub returns : goal.returns
returns c = equal
