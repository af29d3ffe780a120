use Rattle.ged_tree.proofs.laws.FaultsStay.{first_fault_stays}
use Rattle.ged_tree.proofs.laws.files.first_fault_stays.Goals as goal

pub returns : goal.returns
returns c = first_fault_stays
