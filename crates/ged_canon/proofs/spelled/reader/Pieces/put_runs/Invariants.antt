use Rattle.std.proofs.Common.{◌-◌, length}
use Rattle.ged_canon.proofs.spelled.Filling.{IsFilled}
use Rattle.ged_canon.proofs.spelled.reader.Pieces.put_runs.Given as goal

-- the bytes so far stand in the buffer, and the others are still to be read
abbrev pub invariant-loop-put : goal.invariant-loop-put
invariant-loop-put l = IsFilled l.fn.self l.fn.buffer l.buffer l.self l.put

abbrev pub decreases-loop-put : goal.decreases-loop-put
decreases-loop-put l = length l.buffer - l.put
