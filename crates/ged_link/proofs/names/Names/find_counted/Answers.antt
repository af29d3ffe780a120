use Rattle.std.proofs.Common.{◌≡◌, ◌+◌, ◌∙◌, ap, sym, refl, nat_eq}
use Rattle.std.specs.HashMap.{get}
use Rattle.ged_link.specs.Slots.{slot_in}
use Rattle.ged_link.specs.Indexes.{found_by, first_of}
use Rattle.ged_link.specs.inner.Slots.{kept_at}
use Rattle.ged_link.proofs.CountLemmas.{counted_slot}
use Rattle.ged_link.proofs.names.Names.find_counted.Goals as goal

pub returns-in-Some : goal.returns-in-Some
returns-in-Some c name e =
    let records = c.args.self.now in
    let slot : slot_in records.slots.regions.items name ≡ c.slot_behind-slot.result = counted_slot name _ c.args.bits e refl c.requires records.slots.regions.items ∙ sym c.slot_behind-slot.ensures in
    sym (ap (found_by records name) e
    ∙ ap (λ s. first_of (kept_at records.slots s (9223372036854775808 + c.args.bits)) (get nat_eq records.short (9223372036854775808 + c.args.bits))) slot
    ∙ ap (λ o. first_of o (get nat_eq records.short (9223372036854775808 + c.args.bits))) (sym c.find_at.ensures ∙ c.in-Some.is))

pub returns-in-None : goal.returns-in-None
returns-in-None c name e =
    let records = c.args.self.now in
    let slot : slot_in records.slots.regions.items name ≡ c.slot_behind-slot.result = counted_slot name _ c.args.bits e refl c.requires records.slots.regions.items ∙ sym c.slot_behind-slot.ensures in
    sym (ap (found_by records name) e
    ∙ ap (λ s. first_of (kept_at records.slots s (9223372036854775808 + c.args.bits)) (get nat_eq records.short (9223372036854775808 + c.args.bits))) slot
    ∙ ap (λ o. first_of o (get nat_eq records.short (9223372036854775808 + c.args.bits))) (sym c.find_at.ensures ∙ c.in-None.is)
    ∙ sym (c.copied.ensures ∙ c.find_short.ensures))
