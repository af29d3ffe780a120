use Rattle.ged_schema.specs.Tables.{rows}
use Rattle.ged_schema.proofs.Marking.{needed_marked}
use Rattle.ged_schema.proofs.quick_check.are_needed_marked.Goals as goal

pub returns : goal.returns
returns c = needed_marked c.needed_rows-needed.result c.args.marks (rows c.args.context) c.needed_rows-needed.ensures
