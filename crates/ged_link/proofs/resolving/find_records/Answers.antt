use Rattle.ged_link.proofs.resolving.find_records.Goals as goal

pub returns-clause-types : goal.returns-clause-types
returns-clause-types g c = c.in_ok-places.ensures.types c.args.list.types.items c.requires.list.types

pub returns-clause-listed : goal.returns-clause-listed
returns-clause-listed g c = c.requires.list.types
