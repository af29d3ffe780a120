use Rattle.ged_accept.proofs.FileLaws.{one_fault_of_file}
use Rattle.ged_accept.proofs.laws.one_file_fault.Goals as goal

pub returns : goal.returns
returns c = one_fault_of_file
