use Rattle.ged_link.proofs.TypeLemmas.{typed_at, no_number}
use Rattle.ged_link.proofs.index.Index.leads_at.Goals as goal

pub returns-in_default : goal.returns-in_default
returns-in_default c = λ d is here. (
  λ told. cc,
  λ has. absurd (no_number d c.args.self.now.records c.args.name.now c.args.wanted is.records (λ number named. c.in_default.not-Some number ((c.record_at.ensures d is here number).1 named)) has),
)

pub returns : goal.returns
returns c = λ d is here.
    let named = (c.record_at.ensures d is here c.in-Some.number).0 c.in-Some.is in
    let one = typed_at d c.args.self.now.records c.args.name.now c.in-Some.number c.args.self.now.types.items c.args.wanted is.records is.typed named in (
      λ told. one.0 (rw (← c.deref.ensures.value) (c.is_typed.ensures.0 told)),
      λ has. c.is_typed.ensures.1 (rw c.deref.ensures.value (one.1 has)),
    )
