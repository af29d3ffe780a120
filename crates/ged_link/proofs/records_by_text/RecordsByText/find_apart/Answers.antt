use Rattle.std.proofs.Common.{sym, subst}
use Rattle.std.specs.HashMap.{get_by_text}
use Rattle.ged_link.specs.inner.Texts.{MayStandAt}
use Rattle.ged_link.proofs.TextLemmas.{none_apart}
use Rattle.ged_link.proofs.records_by_text.RecordsByText.find_apart.Goals as goal

pub returns-then-has_room : goal.returns-then-has_room
returns-then-has_room c =
    let records = c.args.self.now in
    let room = c.if-has_room.ensures in
    let free = subst (λ slots. MayStandAt slots c.args.hash room.0) c.deref.ensures.value room.1 in
    sym (none_apart records.key records.slots.items (get_by_text records.others) (records.crowded c.if-self.true) c.args.name.now room.0
    (subst (λ hash. MayStandAt records.slots.items hash room.0) (sym c.requires) free))
