-- Both are the sorted document of the other.
use Rattle.ged_canon.proofs.theory.Tidy.{unique}
use Rattle.ged_canon.proofs.laws.tidy_form_is_unique.Goals as goal

pub returns : goal.returns
returns c = unique
