use Rattle.ged_tree.proofs.theory.LineCounts.{counted}
use Rattle.ged_tree.proofs.laws.places.counted_lines.Goals as goal

pub returns : goal.returns
returns c = counted
