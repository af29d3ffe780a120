use Rattle.std.proofs.Common.{◌≡◌, refl, sym, ◌∙◌, subst, Bool, true, false}
use Rattle.std.specs.Prelude.{IsTrue}
use Rattle.ged_value.specs.Kinds.{takes_lines}
use Rattle.ged_schema.specs.inner.LineWalks.{goes_on}
use Rattle.ged_schema.specs.declared.line_walk.LineWalk.{LineWalk}
use Rattle.ged_schema.proofs.LineOpening.{has_walked_on}
use Rattle.ged_schema.proofs.line_walk.LineWalk.keep_continuation.Goals as goal

pub returns-then-self : goal.returns-then-self
returns-then-self c lines line cont walked held =
    let old = c.args.self.now in
    let taken : c.takes_any_text-self.result ≡ true = rw held refl in
    let may : takes_lines old.last ≡ true = sym c.takes_any_text-self.ensures ∙ taken in
    has_walked_on line lines old _ (rw c.if-self.true refl) walked (goes_on cont may (same old c.takes_any_text-self.result taken c.if-self.true)) held
  where
    same : (walk : LineWalk) (taken : Bool) → taken ≡ true → walk.holds ≡ true → record walk { holds = taken } ≡ walk
    same walk taken may holds = rw may (rw holds refl)

pub returns-else-self : goal.returns-else-self
returns-else-self c lines line cont walked held = (let never : IsTrue false = subst (λ (b : Bool). IsTrue b) c.if-self.false held in cc)
