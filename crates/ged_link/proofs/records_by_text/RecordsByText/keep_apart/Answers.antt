use Rattle.std.proofs.Common.{sym, subst}
use Rattle.std.specs.HashMap.{get_by_text}
use Rattle.ged_link.specs.Texts.{HasNoRoom}
use Rattle.ged_link.proofs.TextLemmas.{one_more_crowded}
use Rattle.ged_link.proofs.records_by_text.RecordsByText.keep_apart.Goals as goal

pub invariant_of-self-2-clause-crowded : goal.invariant_of-self-2-clause-crowded
invariant_of-self-2-clause-crowded c told =
    let records = c.args.self.now in
    one_more_crowded records.key records.slots.items (get_by_text records.others) (get_by_text c.keep_other.new.others) c.args.name.now c.args.found
    (records.crowded (c.are_crowded_with-all_fit.ensures.crowded told))
    (subst (HasNoRoom records.slots.items) (sym c.requires) (c.are_crowded_with-all_fit.ensures.room told))
    c.in_ok-keep_other.ensures.kept
