use Rattle.std.proofs.Common.{arith}
use Rattle.std.proofs.lemmas.Bool.{OnTrue_at}
use Rattle.ged_value.proofs.QuickLaws.{word_and_year}
use Rattle.ged_value.proofs.quick.days_of.Goals as goal

pub returns-in-32 : goal.returns-in-32
returns-in-32 c = word_and_year c.args.bytes.now c.word_days.result c.in-32.len_at_least (omega arith) c.word_days.ensures (OnTrue_at c.if-is_year.true c.is_year.ensures)
