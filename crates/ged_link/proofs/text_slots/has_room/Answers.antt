use Rattle.std.proofs.Common.{refl}
use Rattle.ged_link.proofs.text_slots.has_room.Goals as goal

pub returns-in-None : goal.returns-in-None
returns-in-None c = c.in-None.ensures.full refl
