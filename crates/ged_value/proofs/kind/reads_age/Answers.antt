use Rattle.ged_value.specs.Ages.{AgeText}
use Rattle.ged_value.specs.AgeViews.{age_parts}
use Rattle.ged_value.proofs.KindLaws.{some_reads}
use Rattle.ged_value.proofs.kind.reads_age.Goals as goal

pub returns : goal.returns
returns c = some_reads age_parts (λ parts. AgeText parts c.args.text.now) c.read_age.result c.is_some.result c.read_age.ensures c.is_some.ensures
