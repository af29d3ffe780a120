use Rattle.ged_canon.specs.inner.Working.{sorted_document}
use Rattle.ged_canon.proofs.theory.Tidy.{sorted_is_tidy_form}
use Rattle.ged_canon.proofs.laws.tidy_form_exists.Goals as goal

pub returns : goal.returns
returns c edition d v h = (sorted_document edition d, sorted_is_tidy_form edition d v h)
