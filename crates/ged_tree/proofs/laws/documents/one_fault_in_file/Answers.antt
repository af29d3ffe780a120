use Rattle.ged_tree.proofs.laws.FileFaults.{one_in_file}
use Rattle.ged_tree.proofs.laws.documents.one_fault_in_file.Goals as goal

pub returns : goal.returns
returns c = one_in_file
