use Rattle.ged_link.proofs.LawLemmas.{identifiers_placed}
use Rattle.ged_link.proofs.laws.identifiers_have_places.Goals as goal

pub returns : goal.returns
returns c = identifiers_placed
