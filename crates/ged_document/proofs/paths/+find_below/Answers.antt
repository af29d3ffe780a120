use Rattle.std.proofs.Common.{arith}
use Rattle.std.proofs.lemmas.Grind.{common_steps}
use Rattle.ged_document.proofs.Leading.{path_steps}
use Rattle.ged_document.proofs.paths.+find_below.Goals as goal

pub returns-then-left-eq0 : goal.returns-then-left-eq0
returns-then-left-eq0 t c = grind (arith, common_steps, path_steps)
