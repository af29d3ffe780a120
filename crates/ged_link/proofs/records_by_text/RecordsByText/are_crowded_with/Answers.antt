use Rattle.std.proofs.Common.{subst}
use Rattle.ged_link.specs.Texts.{HasNoRoom}
use Rattle.ged_link.proofs.records_by_text.RecordsByText.are_crowded_with.Goals as goal

pub returns-clause-room : goal.returns-clause-room
returns-clause-room c told = subst (λ slots. HasNoRoom slots c.args.hash) c.deref.ensures.value c.if-has_room.ensures
