use Rattle.std.proofs.Common.{◌-◌, length}
use Rattle.ged_canon.proofs.spelled.Filling.{IsFilled}
use Rattle.ged_canon.proofs.spelled.reader.FormReader.fill.Given as goal

-- the bytes so far stand in the buffer, and the others are still to be read
abbrev pub invariant-loop-piece : goal.invariant-loop-piece
invariant-loop-piece l = IsFilled l.fn.self l.fn.buffer l.buffer l.self l.filled

abbrev pub decreases-loop-piece : goal.decreases-loop-piece
decreases-loop-piece l = length l.buffer - l.filled
