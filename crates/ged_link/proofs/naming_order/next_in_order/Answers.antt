use Rattle.std.proofs.Common.{Some, sym, ap, ◌∙◌}
use Rattle.std.proofs.lemmas.Slice.Eq.{bytes_eq-Decides}
use Rattle.ged_link.specs.declared.index.RecordPlace.{RecordPlace}
use Rattle.ged_link.proofs.KeptPlaces.{kept_stands, kept_named, record_within}
use Rattle.ged_link.proofs.naming_order.next_in_order.Goals as goal

pub xref-requires : goal.xref-requires
xref-requires g c =
    let w = g.F.Forest.trees c.args.forest.now in
    let number = c.args.order.next in
    let place = c.in_ok-place.place in
    record_within w number place (kept_stands w c.args.records.now.places.now number place c.requires c.in_ok-place.ensures.told)

pub returns-then-eq : goal.returns-then-eq
returns-then-eq g c =
    let w = g.F.Forest.trees c.args.forest.now in
    let found : RecordPlace = record { number = c.args.order.next; place = c.in_ok-place.place } in
    kept_named w c.args.records.now.places.now found c.args.name.now c.requires c.in_ok-place.ensures.told (sym c.in_ok-xref.ensures ∙ ap Some ((bytes_eq-Decides c.in_ok-xref.field-0.now c.args.name.now).0 (sym c.if-eq.ensures)))
