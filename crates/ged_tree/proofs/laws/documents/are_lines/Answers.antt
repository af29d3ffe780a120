use Rattle.ged_tree.proofs.laws.Shown.{shown}
use Rattle.ged_tree.proofs.laws.documents.are_lines.Goals as goal

pub returns : goal.returns
returns c = shown
