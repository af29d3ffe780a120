use Rattle.std.proofs.Common.{◌≡◌, [], fold, drop}
use Rattle.ged_link.specs.inner.Layout.{begun}
use Rattle.ged_link.proofs.layout.regions_of.Given as goal

abbrev pub invariant-loop-tally : goal.invariant-loop-tally
invariant-loop-tally l = fold begun (l.regions.items, l.size) (drop l.tally-index l.tallies) ≡ fold begun ([], 0) l.tallies
