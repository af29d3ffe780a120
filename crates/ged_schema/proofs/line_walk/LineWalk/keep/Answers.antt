use Rattle.std.proofs.Common.{refl, sym, subst, false, ◌∙◌, ap, Bool}
use Rattle.std.specs.Prelude.{IsTrue}
use Rattle.ged_schema.specs.declared.line_walk.LineWalk.{LineWalk}
use Rattle.ged_schema.specs.inner.LineWalks.{Takes}
use Rattle.ged_schema.proofs.LineOpening.{has_walked_on}
use Rattle.ged_schema.proofs.Marking.{on_true}
use Rattle.ged_schema.proofs.line_walk.LineWalk.keep.Goals as goal
use Rattle.ged_schema.proofs.line_walk.LineWalk.keep.Goals.{else-self-via-then-self+else-not-take, else-self-via-else-self}

pub returns-else-self : goal.returns-else-self
returns-else-self c lines walked held = elim c.else-self.branch [
  | else-self-via-then-self+else-not-take w ↦ has_walked_on c.args.line.now lines c.args.self.now c.else-self.self (rw w.if-self.true refl) walked
      (subst (λ (x : LineWalk). Takes c.args.line.now c.args.self.now x) (sym w.self-is) (on_true w.take.result w.take.ensures w.if-not-take.false)) held
  | else-self-via-else-self w ↦ (let never : IsTrue false = subst (λ (b : Bool). IsTrue b) (ap (λ (x : LineWalk). x.holds) w.self-is ∙ w.if-self.false) held in cc)
]
