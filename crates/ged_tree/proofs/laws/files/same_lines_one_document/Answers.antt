use Rattle.ged_tree.proofs.theory.Building.{same_lines}
use Rattle.ged_tree.proofs.laws.files.same_lines_one_document.Goals as goal

pub returns : goal.returns
returns c = same_lines
