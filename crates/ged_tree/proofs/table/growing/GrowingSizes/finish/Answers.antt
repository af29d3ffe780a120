use Rattle.std.proofs.Common.{◌≡◌, ◌∙◌, ℕ, length, max, subst, sym, arith}
use Rattle.std.proofs.lemmas.List.{length-map}
use Rattle.ged_tree.specs.inner.Growing.{Closes}
use Rattle.ged_tree.specs.Rows.{kept_level, kept_levels}
use Rattle.ged_tree.proofs.table.GrownSizes.{all_closed}
use Rattle.ged_tree.proofs.table.growing.GrowingSizes.finish.Goals as goal

pub returns : goal.returns
returns c = λ structures count rises has.
    let old = c.args.self in
    let mid = c.close_from.new.self in
    let end : c.args.count ≡ length (kept_levels structures) = count ∙ sym (length-map structures kept_level) in
    let closes = subst (λ (end : ℕ). Closes old.places 0 (max 0 old.last) end old.sizes mid.sizes) end c.in_ok-close_from.ensures.closes in
    let fit = c.in_ok-fit.ensures in
    all_closed structures old mid.sizes c.sort.new.self rises (has rises) closes
    (rw c.sort.ensures.bytes (fit.count ∙ count))
    (λ place h. rw c.sort.ensures.bytes (fit.bytes place (omega (arith, h, count)))) (rw fit.large at c.sort.ensures.large)
