use Rattle.ged_explain.proofs.Seen.{dots_seen}
use Rattle.ged_explain.proofs.explanation.Explanation.say_clipped.Goals as goal

pub returns-then-not-is_empty : goal.returns-then-not-is_empty
returns-then-not-is_empty c = λ before. c.say.ensures (c.loop.invariant before) dots_seen
