use Rattle.std.proofs.Common.{refl, sym, subst, false, ◌∙◌, ap, Bool}
use Rattle.std.specs.Prelude.{IsTrue}
use Rattle.ged_schema.specs.declared.line_walk.LineWalk.{LineWalk}
use Rattle.ged_schema.specs.inner.LineWalks.{Takes}
use Rattle.ged_schema.proofs.LineOpening.{has_walked_on, takes_below}
use Rattle.ged_schema.proofs.Marking.{on_true}
use Rattle.ged_schema.proofs.line_walk.LineWalk.keep_substructure.Goals as goal
use Rattle.ged_schema.proofs.line_walk.LineWalk.keep_substructure.Goals.{else-self-via-then-self+else-not-open_by_parts, else-self-via-else-self}

pub returns-else-self : goal.returns-else-self
returns-else-self c lines walked held = elim c.else-self.branch [
  | else-self-via-then-self+else-not-open_by_parts w ↦
      let line = c.args.line.now in
      let told = w.open_by_parts.ensures line (sym w.level.ensures.level) (sym w.tag.ensures.tag) (sym w.value.ensures.value) in
      let opened = on_true w.open_by_parts.result told w.if-not-open_by_parts.false in
      has_walked_on line lines c.args.self.now c.else-self.self (rw w.if-self.true refl) walked
      (subst (λ (x : LineWalk). Takes line c.args.self.now x) (sym w.self-is) (takes_below line c.args.self.now w.open_by_parts.new.self w.open_by_parts.new.self.holds c.requires.below c.requires.no_cont opened)) held
  | else-self-via-else-self w ↦ (let never : IsTrue false = subst (λ (b : Bool). IsTrue b) (ap (λ (x : LineWalk). x.holds) w.self-is ∙ w.if-self.false) held in cc)
]
