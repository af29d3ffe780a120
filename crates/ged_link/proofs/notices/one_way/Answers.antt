use Rattle.std.proofs.Common.{ℕ, List, subst, sym, arith}
use Rattle.ged_link.specs.Notices.{AreOneWay}
use Rattle.ged_link.proofs.OneWayLemmas.{place_within}
use Rattle.ged_link.proofs.notices.one_way.Goals as goal

pub line-requires : goal.line-requires
line-requires g c =
    let w = g.F.Forest.trees c.args.forest.now in
    let within = place_within w c.deref-place-items.result.now (subst (λ (places : List ℕ). AreOneWay w places) (sym c.deref-place-items.ensures.value) c.requires.index.one_way) c.loop-place.place-index c.loop-place-test.true in
    omega (arith, within)
