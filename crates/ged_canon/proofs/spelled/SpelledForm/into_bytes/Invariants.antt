use Rattle.std.proofs.Common.{◌≡◌, ◌++◌, length}
use Rattle.ged_canon.proofs.spelled.SpelledForm.into_bytes.Given as goal

-- the bytes so far are taken over, and the others are still to be read
abbrev pub invariant-loop-pieces : goal.invariant-loop-pieces
invariant-loop-pieces l = l.bytes.items ++ l.pieces ≡ l.fn.self

abbrev pub decreases-loop-pieces : goal.decreases-loop-pieces
decreases-loop-pieces l = length l.pieces
