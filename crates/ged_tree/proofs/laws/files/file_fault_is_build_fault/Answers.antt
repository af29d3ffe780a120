use Rattle.ged_tree.proofs.theory.Building.{file_fault}
use Rattle.ged_tree.proofs.laws.files.file_fault_is_build_fault.Goals as goal

pub returns : goal.returns
returns c = file_fault
