use Rattle.std.proofs.Common.{◌≡◌, ◌+◌, ◌++◌, length}
use Rattle.ged_line.specs.Bytes.{Bytes}
use Rattle.ged_canon.proofs.spelled.SpelledForm.has_bytes_of.Given as goal

-- both forms begin with what was compared of them
abbrev pub invariant-loop-pieces : goal.invariant-loop-pieces
invariant-loop-pieces l = (front : Bytes) × (l.fn.self ≡ front ++ (l.left ++ l.pieces)) × (l.fn.other ≡ front ++ (l.right ++ l.others))

abbrev pub decreases-loop-pieces : goal.decreases-loop-pieces
decreases-loop-pieces l = length l.left + length l.pieces
