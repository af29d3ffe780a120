use Rattle.ged_link.proofs.TextLemmas.{may_stand}
use Rattle.ged_link.proofs.text_slots.free_slot.Goals as goal

pub returns-then-used-window-clause-free : goal.returns-then-used-window-clause-free
returns-then-used-window-clause-free c = may_stand c.args.slots.now c.args.hash c.used_before-used.result c.first_of.result c.window-window.result.now c.first_of.ensures c.window-window.ensures c.if-used-window.true c.used_before-used.ensures.free
