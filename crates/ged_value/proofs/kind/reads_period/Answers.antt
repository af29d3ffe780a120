use Rattle.ged_value.specs.Values.{PeriodText}
use Rattle.ged_value.specs.ValueViews.{period_parts}
use Rattle.ged_value.proofs.KindLaws.{some_reads}
use Rattle.ged_value.proofs.kind.reads_period.Goals as goal

pub returns : goal.returns
returns c = some_reads period_parts (λ parts. PeriodText parts c.args.text.now) c.read_period.result c.is_some.result c.read_period.ensures c.is_some.ensures
