use Rattle.ged_schema.specs.declared.context.Context.TheVariants.{File}
use Rattle.ged_schema.proofs.FirstUnlisted.{place_has}
use Rattle.ged_schema.proofs.notices.coverage_of.Goals as goal

pub returns-in-Some : goal.returns-in-Some
returns-in-Some g c =
    let (place, lowest, _) = c.in-Some.ensures in place_has File 0 (g.F.Forest.trees c.args.forest.now) place lowest.0
