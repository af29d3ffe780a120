use Rattle.std.proofs.Common.{refl}
use Rattle.ged_link.specs.declared.names.Names.{Names}
use Rattle.ged_link.proofs.NameLemmas.{added_by_text, not_empty}
use Rattle.ged_link.proofs.KeyLemmas.{held_long}
use Rattle.ged_link.proofs.names.Names.insert_long.Goals as goal

pub insert-requires : goal.insert-requires
insert-requires c = not_empty c.args.name.now c.requires

pub returns-clause-added : goal.returns-clause-added
returns-clause-added c =
    let old : Names = c.args.self.now in
    let new : Names = record { slots = old.slots; short = old.short; long = c.insert.new.self } in
    added_by_text old new c.args.name.now c.args.found c.insert.result c.requires c.insert.ensures.is_new c.insert.ensures.added refl refl

pub returns-clause-held : goal.returns-clause-held
returns-clause-held c names among =
    let old : Names = c.args.self.now in
    let new : Names = record { slots = old.slots; short = old.short; long = c.insert.new.self } in
    held_long names old new c.args.name.now c.args.found among c.insert.result c.insert.ensures.added c.insert.ensures.same
