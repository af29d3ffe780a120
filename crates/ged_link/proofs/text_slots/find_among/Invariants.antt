use Rattle.std.proofs.Common.{◌≡◌, drop}
use Rattle.ged_link.specs.Texts.{kept_among}
use Rattle.ged_link.proofs.text_slots.find_among.Given as goal

-- what the slots to come keep is what all keep
abbrev pub invariant-loop-slot : goal.invariant-loop-slot
invariant-loop-slot l = kept_among l.texts l.name l.tag (drop l.slot-index l.slots) ≡ kept_among l.texts l.name l.tag l.slots
