use Rattle.ged_canon.specs.inner.Working.{number_of}
use Rattle.ged_canon.proofs.writer.alike_structures.is_alike.Goals as goal

pub returns : goal.returns
returns g c = λ names others h k same. c.has_same_text.ensures (number_of 1 names) (number_of 1 others) same
