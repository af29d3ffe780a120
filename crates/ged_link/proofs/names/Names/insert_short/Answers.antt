use Rattle.std.proofs.Common.{refl, sym, ap, ◌∙◌, is_none}
use Rattle.ged_link.specs.declared.names.Names.{Names}
use Rattle.ged_link.proofs.NameLemmas.{added_short, missed_short, found_missed, told_none}
use Rattle.ged_link.proofs.KeyLemmas.{holds_short}
use Rattle.ged_link.proofs.names.Names.insert_short.Goals as goal

pub returns-clause-added : goal.returns-clause-added
returns-clause-added c name is no_slot =
    let old : Names = c.args.self.now in
    let new : Names = record { slots = old.slots; short = c.insert.new.self; long = old.long } in
    let missed = no_slot c.args.number is in (
      told_none c.is_none.result c.in_ok-before.before c.is_none.ensures ∙ ap is_none (c.in_ok-before.ensures.old ∙ sym (found_missed old new name c.args.found c.args.number is missed)),
      λ _. added_short old new name c.args.found c.args.number is (missed_short old new name c.args.found c.args.number is missed refl c.in_ok-before.ensures.updates.0) refl,
    )

pub returns-clause-held : goal.returns-clause-held
returns-clause-held c names name is among =
    let old : Names = c.args.self.now in
    let new : Names = record { slots = old.slots; short = c.insert.new.self; long = old.long } in
    holds_short names old new name c.args.found among c.args.number is c.in_ok-before.ensures.updates.0
