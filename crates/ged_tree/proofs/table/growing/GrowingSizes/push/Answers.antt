use Rattle.std.proofs.Common.{ℕ, max, slice_set, refl, subst, arith, rules}
use Rattle.ged_tree.specs.declared.table.growing.GrowingSizes.{GrowingSizes}
use Rattle.ged_tree.specs.inner.Growing.{Closes}
use Rattle.ged_tree.proofs.table.ClosedSizes.{front_rises}
use Rattle.ged_tree.proofs.table.GrownSizes.{grown}
use Rattle.ged_tree.proofs.table.growing.GrowingSizes.push.Goals as goal

pub returns : goal.returns
returns c = λ levels count has rises.
    let old = c.args.self.now in
    let mid = c.close_from.new.self in
    let level = c.args.level in
    let sized = has (front_rises 0 levels level rises) in
    let new : GrowingSizes = record { sizes = mid.sizes; places = slice_set mid.places c.from.result c.args.count; last = level } in
    let closes = subst (λ (end : ℕ). Closes old.places level (max level old.last) end old.sizes mid.sizes) count c.in_ok-close_from.ensures.closes in
    grown levels level old mid.sizes rises sized closes new (search rules) (omega (arith, c.ranges.level)) refl refl
    (rw (c.in_ok-close_from.ensures.places, c.from.ensures, count) refl)
