use Rattle.std.proofs.Common.{◌∙◌, Some, refl}
use Rattle.ged_link.specs.Places.{ArePlaces}
use Rattle.ged_link.proofs.KeptPlaces.{places_rising, answer_stands, answer_named}
use Rattle.ged_link.proofs.index.Index.record_standing_at.Goals as goal

pub returns-in-Some-clause-stands : goal.returns-in-Some-clause-stands
returns-in-Some-clause-stands c = λ d is.
    answer_stands d c.deref.result.now c.args.place (Some c.in-Some.number) (rw c.deref.ensures.value is.places) (λ k e. c.next_record.ensures.told k (c.in-Some.is ∙ e)) (λ k kept. refl)

pub returns-in-Some-clause-identifier : goal.returns-in-Some-clause-identifier
returns-in-Some-clause-identifier c = λ d is.
    answer_named d c.deref.result.now c.args.place (Some c.in-Some.number) (rw c.deref.ensures.value is.places) (λ k e. c.next_record.ensures.told k (c.in-Some.is ∙ e))

pub returns-in-None-clause-stands : goal.returns-in-None-clause-stands
returns-in-None-clause-stands c = λ d is.
    let are : ArePlaces d c.deref-in-None.result.now = rw c.deref-in-None.ensures.value is.places in
    answer_stands d c.deref-in-None.result.now c.args.place c.searched_record.result are c.searched_record.ensures.told (c.searched_record.ensures.found (places_rising d c.deref-in-None.result.now are))

pub returns-in-None-clause-identifier : goal.returns-in-None-clause-identifier
returns-in-None-clause-identifier c = λ d is.
    answer_named d c.deref-in-None.result.now c.args.place c.searched_record.result (rw c.deref-in-None.ensures.value is.places) c.searched_record.ensures.told
