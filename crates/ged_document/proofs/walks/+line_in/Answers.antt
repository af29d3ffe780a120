use Rattle.std.proofs.Common.{arith}
use Rattle.std.proofs.lemmas.Grind.{common_steps}
use Rattle.ged_document.proofs.Steps.{line_steps}
use Rattle.ged_document.proofs.walks.+line_in.Goals as goal

pub returns-then-place-eq0 : goal.returns-then-place-eq0
returns-then-place-eq0 t c = grind (arith, common_steps, line_steps)

pub returns-then-place-size : goal.returns-then-place-size
returns-then-place-size t c = grind (arith, common_steps, line_steps)
