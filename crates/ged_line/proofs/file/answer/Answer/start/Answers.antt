use Rattle.std.proofs.Common.{[], ◌∷◌, rules}
use Rattle.ged_line.proofs.file.answer.Answer.start.Goals as goal

pub returns-clause-pending : goal.returns-clause-pending
returns-clause-pending c = (0xEF ∷ 0xBB ∷ 0xBF ∷ [], search rules)
