use Rattle.std.proofs.Common.{◌≡◌, ◌+◌, ◌∙◌, ℕ, List, refl, subst, max, arith}
use Rattle.ged_tree.specs.inner.Growing.{Closes}
use Rattle.ged_tree.proofs.table.GrownSizes.{closes_empty, closes_more}
use Rattle.ged_tree.proofs.table.growing.GrowingSizes.close_from.Goals as goal

pub returns-then-level-last : goal.returns-then-level-last
returns-then-level-last c = record {
  closes = closes_empty c.args.self.now.places c.args.level _ c.args.count c.args.self.now.sizes _ (omega (arith, c.if-level-last.true)) (λ place. refl) refl;
  places = refl;
}

pub loop-next-init : goal.loop-next-init
loop-next-init c = record {
  from = omega (arith, c.from-next.ensures);
  to = omega (arith, c.from-next.ensures);
  count = c.in_ok-extend.ensures.room;
  places = refl;
  closes = closes_empty c.args.self.now.places c.args.level c.from-next.result c.args.count c.args.self.now.sizes c.extend.new.self (omega (arith, c.from-next.ensures)) c.in_ok-extend.ensures.bytes c.in_ok-extend.ensures.large;
}

pub loop-next-preserved : goal.loop-next-preserved
loop-next-preserved c =
    let old = c.args.self.now in
    let i = c.loop-next.invariant in
    let told = c.in_ok-close.ensures in
    let step = subst (λ (places : List ℕ). Closes places c.loop-next.next (c.loop-next.next + 1) c.args.count c.loop-next.self.sizes c.close.new.self.sizes) i.places told.closes in
    record {
      from = omega (arith, i.from);
      to = omega (arith, c.loop-next-test.true, c.from.ensures);
      count = told.room;
      places = told.places ∙ i.places;
      closes = closes_more old.places c.args.level c.loop-next.next c.args.count old.sizes c.loop-next.self.sizes c.close.new.self.sizes i.from i.closes step;
    }

pub returns : goal.returns
returns c =
    let old = c.args.self.now in
    let i = c.loop-next.invariant in
    let e : c.loop-next.next ≡ max c.args.level old.last = omega (arith, i.from, i.to, c.loop-next-test.false, c.from.ensures) in
    record {
      closes = subst (λ (to : ℕ). Closes old.places c.args.level to c.args.count old.sizes c.loop-next.self.sizes) e i.closes;
      places = i.places;
    }
