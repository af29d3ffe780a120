use Rattle.ged_explain.specs.inner.Telling.{TellsSeen}
use Rattle.ged_explain.proofs.explanation.Explanation.say_clipped.Given as goal

abbrev pub invariant-loop : goal.invariant-loop
invariant-loop l = TellsSeen l.initial.self → TellsSeen l.self
