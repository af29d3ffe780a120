use Rattle.std.proofs.Common.{◌-◌, length}
use Rattle.memchr.specs.Find.{Nowhere, Passes, is_byte2}
use Rattle.ged_line.specs.Bytes.{carriage_return, line_feed}
use Rattle.ged_line.proofs.bytes.line_ends.first_end.Given as goal

-- no end stands before the run
abbrev pub invariant-loop-at : goal.invariant-loop-at
invariant-loop-at l = Nowhere (Passes (is_byte2 carriage_return line_feed) l.bytes) 0 l.at

abbrev pub decreases-loop-at : goal.decreases-loop-at
decreases-loop-at l = length l.bytes - l.at
