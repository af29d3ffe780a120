use Rattle.std.proofs.Common.{rules, ◌≡◌, ◌∙◌, ap, List, None, replicate}
use Rattle.std.specs.HashMap.{get_by_text}
use Rattle.std.specs.Option.{option_or}
use Rattle.ged_link.specs.declared.text_slots.TextSlot.{TextSlot}
use Rattle.ged_link.specs.Texts.{kept_for, text_hash, free}
use Rattle.ged_link.proofs.TextLemmas.{none_for}
use Rattle.ged_link.proofs.records_by_text.RecordsByText.new.Goals as goal

pub returns-clause-none : goal.returns-clause-none
returns-clause-none c name =
    let slots : c.in_ok-vec.field-0.items ≡ replicate c.min-room.result free = search rules in
    let none : get_by_text c.with_hasher.result name ≡ None = search rules in
    ap (λ (slots : List TextSlot). option_or (kept_for slots c.in_ok-with_capacity.field-0.items name (text_hash c.args.key name)) (get_by_text c.with_hasher.result name)) slots
    ∙ ap (λ kept. option_or kept (get_by_text c.with_hasher.result name)) (none_for c.in_ok-with_capacity.field-0.items name (text_hash c.args.key name) c.min-room.result)
    ∙ none
