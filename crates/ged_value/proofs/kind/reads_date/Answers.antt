use Rattle.ged_value.specs.Values.{DateValueText}
use Rattle.ged_value.specs.ValueViews.{value_parts}
use Rattle.ged_value.proofs.KindLaws.{some_reads}
use Rattle.ged_value.proofs.kind.reads_date.Goals as goal

pub returns : goal.returns
returns c = some_reads value_parts (λ parts. DateValueText parts c.args.text.now) c.read_date.result c.is_some.result c.read_date.ensures c.is_some.ensures
