use Rattle.ged_schema.proofs.NoticeLaws.{faulty}
use Rattle.ged_schema.proofs.laws.fault_of_unchecked.Goals as goal

pub returns : goal.returns
returns g c = faulty c.args.profile (g.F.Forest.trees c.args.forest.now) c.check_as.result c.check_as.ensures
