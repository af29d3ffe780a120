-- Both are the canonical document of the other.
use Rattle.ged_canon.proofs.theory.Unique.{unique}
use Rattle.ged_canon.proofs.laws.normal_form_is_unique.Goals as goal

pub returns : goal.returns
returns c = unique
