use Rattle.std.proofs.Common.{arith}
use Rattle.std.proofs.lemmas.Grind.{common_steps}
use Rattle.ged_document.proofs.Steps.{founds}
use Rattle.ged_document.proofs.walks.+look_up.Goals as goal

pub returns-then-place-eq0-clause-structure : goal.returns-then-place-eq0-clause-structure
returns-then-place-eq0-clause-structure t c = grind (arith, common_steps, founds)

pub returns-then-place-eq0-clause-below : goal.returns-then-place-eq0-clause-below
returns-then-place-eq0-clause-below t c = grind (arith, common_steps, founds)

pub returns-then-place-eq0-clause-level : goal.returns-then-place-eq0-clause-level
returns-then-place-eq0-clause-level t c = grind (arith, common_steps, founds)

pub returns-then-place-size-clause-structure : goal.returns-then-place-size-clause-structure
returns-then-place-size-clause-structure t c = grind (arith, common_steps, founds)

pub returns-then-place-size-clause-below : goal.returns-then-place-size-clause-below
returns-then-place-size-clause-below t c = grind (arith, common_steps, founds)

pub returns-then-place-size-clause-level : goal.returns-then-place-size-clause-level
returns-then-place-size-clause-level t c = grind (arith, common_steps, founds)
