use Rattle.ged_link.specs.inner.PairSets.{AreAnsweredBefore}
use Rattle.ged_link.proofs.pairs.all_answered.Given as goal

abbrev pub invariant-loop-index : goal.invariant-loop-index
invariant-loop-index l = AreAnsweredBefore l.links.pairs.items l.index
