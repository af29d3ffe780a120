use Rattle.ged_schema.specs.Tables.{rows}
use Rattle.ged_schema.specs.Slots.{kept_number}
use Rattle.ged_schema.proofs.Numbers.{numbered_distinct}
use Rattle.ged_schema.proofs.laws.distinct_tags.Goals as goal

pub returns : goal.returns
returns c = numbered_distinct (kept_number c.seed_of.result) (rows c.args.context) c.seed_of.ensures.kept
