use Rattle.ged_canon.specs.inner.Working.{canon}
use Rattle.ged_canon.proofs.theory.Normality.{canon_is_normal_form}
use Rattle.ged_canon.proofs.laws.normal_form_exists.Goals as goal

pub returns : goal.returns
returns c edition d v r h = (canon edition d, canon_is_normal_form edition d v r h)
