use Rattle.std.proofs.Common.{◌≡◌, length}
use Rattle.ged_value.specs.Left.{words_left, left_of}
use Rattle.ged_value.proofs.default.WordsIterator.next.Given as goal

-- nothing but the default word was skipped
abbrev pub invariant-loop-self : goal.invariant-loop-self
invariant-loop-self l = left_of l.self-inside.rest ≡ l.fn.self

abbrev pub decreases-loop-self : goal.decreases-loop-self
decreases-loop-self l = length (words_left l.self-inside.rest)
