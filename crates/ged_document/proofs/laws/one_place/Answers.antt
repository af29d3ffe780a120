use Rattle.ged_document.proofs.Leading.{leads_one}
use Rattle.ged_document.proofs.laws.one_place.Goals as goal

pub returns : goal.returns
returns c = λ w path place other h k. leads_one h k
