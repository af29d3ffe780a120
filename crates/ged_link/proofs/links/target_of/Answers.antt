use Rattle.ged_link.proofs.TypeLemmas.{found_typed}
use Rattle.ged_link.proofs.links.target_of.Goals as goal

pub returns-in-Pointer-clause-typed : goal.returns-in-Pointer-clause-typed
returns-in-Pointer-clause-typed g c =
    found_typed (g.F.Forest.trees c.args.forest.now) c.args.records.now.names.now c.args.records.now.types.now c.in-Pointer.name.now c.find.result c.requires.records.typed c.find.ensures
