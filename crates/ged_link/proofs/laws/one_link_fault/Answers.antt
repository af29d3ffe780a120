use Rattle.ged_link.proofs.LawLemmas.{one_fault}
use Rattle.ged_link.proofs.laws.one_link_fault.Goals as goal

pub returns : goal.returns
returns c = one_fault
