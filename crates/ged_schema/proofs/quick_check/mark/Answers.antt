use Rattle.ged_schema.proofs.Marking.{one_more}
use Rattle.ged_schema.proofs.quick_check.mark.Goals as goal

pub returns-clause-marked : goal.returns-clause-marked
returns-clause-marked c = one_more c.args.number c.args.marks.now c.requires
