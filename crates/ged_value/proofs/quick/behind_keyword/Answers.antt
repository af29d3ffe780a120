use Rattle.std.proofs.Common.{arith}
use Rattle.std.proofs.lemmas.Bool.{OnTrue_at}
use Rattle.ged_value.proofs.QuickLaws.{keyword_here}
use Rattle.ged_value.proofs.quick.behind_keyword.Goals as goal

pub returns-in-32 : goal.returns-in-32
returns-in-32 c = keyword_here c.args.bytes.now c.in-32.len_at_least (omega arith) (OnTrue_at c.if-is_lone_keyword.true c.is_lone_keyword.ensures)
