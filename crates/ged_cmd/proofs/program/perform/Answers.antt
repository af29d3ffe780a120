use Rattle.std.proofs.Common.{sym}
use Rattle.ged_cmd.proofs.program.perform.Goals as goal

pub returns-in-Ok-clause-performs : goal.returns-in-Ok-clause-performs
returns-in-Ok-clause-performs g c = rw (c.in-Ok.is, sym c.as_slice.ensures.value) c.perform_words.ensures.performs
