use Rattle.ged_value.specs.Exact.{ExactText}
use Rattle.ged_value.specs.ExactViews.{exact_parts}
use Rattle.ged_value.proofs.KindLaws.{some_reads}
use Rattle.ged_value.proofs.kind.reads_exact_date.Goals as goal

pub returns : goal.returns
returns c = some_reads exact_parts (λ parts. ExactText parts c.args.text.now) c.read_exact_date.result c.is_some.result c.read_exact_date.ensures c.is_some.ensures
