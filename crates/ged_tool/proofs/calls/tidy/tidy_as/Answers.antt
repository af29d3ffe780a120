-- What was made are the file's tidy bytes, of which the laws speak.
use Rattle.ged_tool.proofs.calls.Answered.{answered}
use Rattle.ged_tool.proofs.calls.TidyLaws.{headline}
use Rattle.ged_tool.proofs.calls.tidy.tidy_as.Goals as goal

pub returns-clause-headline : goal.returns-clause-headline
returns-clause-headline c = answered _ _ _ c.bytes_in_form.result c.bytes_in_form.ensures (λ text tidied. headline _ _ _ _ tidied)
