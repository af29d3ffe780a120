use Rattle.std.proofs.Common.{◌≡◌, map, take}
use Rattle.ged_link.specs.Notices.{one_way_notice}
use Rattle.ged_link.proofs.notices.one_way.Given as goal

abbrev pub invariant-loop-place : goal.invariant-loop-place
invariant-loop-place g l = l.notices.items ≡ map (one_way_notice (g.F.Forest.trees l.forest)) (take l.place-index l.index.one_way.items)
