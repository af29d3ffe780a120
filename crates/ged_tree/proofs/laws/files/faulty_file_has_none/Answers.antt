use Rattle.ged_tree.proofs.theory.Building.{none_of_file}
use Rattle.ged_tree.proofs.laws.files.faulty_file_has_none.Goals as goal

pub returns : goal.returns
returns c = none_of_file
