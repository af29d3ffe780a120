use Rattle.ged_link.proofs.KeptPlaces.{named_found}
use Rattle.ged_link.proofs.naming_order.find_named.Goals as goal

pub returns-in-Some : goal.returns-in-Some
returns-in-Some g c =
    named_found (g.F.Forest.trees c.args.forest.now) c.args.records.now.names.now c.in-Some.found c.args.name.now c.requires.named c.in-Some.ensures
