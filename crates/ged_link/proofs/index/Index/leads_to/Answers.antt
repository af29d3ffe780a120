use Rattle.std.proofs.Common.{sym, ◌∙◌, ◌≡◌, Some, None}
use Rattle.ged_link.proofs.TypeLemmas.{typed_at, no_number}
use Rattle.ged_link.proofs.index.Index.leads_to.Goals as goal

pub returns-in-Some : goal.returns-in-Some
returns-in-Some c = λ d is.
    let named = (c.record_named.ensures d is c.in-Some.number).0 c.in-Some.is in
    let one = typed_at d c.args.self.now.records c.args.name.now c.in-Some.number c.args.self.now.types.items c.args.wanted is.records is.typed named in (
      λ told. one.0 (rw (← c.deref.ensures.value) (c.is_typed.ensures.0 told)),
      λ has. c.is_typed.ensures.1 (rw c.deref.ensures.value (one.1 has)),
    )

pub returns-in-None : goal.returns-in-None
returns-in-None c = λ d is. (
  λ told. cc,
  λ has. absurd (no_number d c.args.self.now.records c.args.name.now c.args.wanted is.records
      (λ number named. let f : None ≡ Some number = sym c.in-None.is ∙ (c.record_named.ensures d is number).1 named in cc) has),
)
