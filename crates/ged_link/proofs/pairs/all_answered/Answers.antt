use Rattle.std.proofs.Common.{arith}
use Rattle.ged_link.proofs.PairLemmas.{all_listed}
use Rattle.ged_link.proofs.pairs.all_answered.Goals as goal

pub returns : goal.returns
returns c = λ _. all_listed c.args.links.now.pairs.items c.loop-index.index (omega (arith, c.loop-index-test.false, c.len-index-end.ensures)) c.loop-index.invariant
