use Rattle.ged_value.specs.Names.{NameText}
use Rattle.ged_value.specs.NameViews.{name_parts}
use Rattle.ged_value.proofs.KindLaws.{some_reads}
use Rattle.ged_value.proofs.kind.reads_name.Goals as goal

pub returns : goal.returns
returns c = some_reads name_parts (λ parts. NameText parts c.args.text.now) c.read_name.result c.is_some.result c.read_name.ensures c.is_some.ensures
