use Rattle.ged_value.specs.Times.{TimeText}
use Rattle.ged_value.specs.TimeViews.{time_parts}
use Rattle.ged_value.proofs.KindLaws.{some_reads}
use Rattle.ged_value.proofs.kind.reads_time.Goals as goal

pub returns : goal.returns
returns c = some_reads time_parts (λ parts. TimeText parts c.args.text.now) c.read_time.result c.is_some.result c.read_time.ensures c.is_some.ensures
