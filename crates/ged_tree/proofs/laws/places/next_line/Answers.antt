use Rattle.std.proofs.Common.{arith}
use Rattle.ged_tree.proofs.laws.LinesAtPlaces.{next_line}
use Rattle.ged_tree.proofs.laws.places.next_line.Goals as goal

pub returns : goal.returns
returns c = λ w p h. next_line 1 w p (omega (arith, h))
