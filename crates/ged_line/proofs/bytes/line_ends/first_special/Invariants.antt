use Rattle.std.proofs.Common.{◌-◌, length}
use Rattle.memchr.specs.Find.{Nowhere, Passes}
use Rattle.ged_line.specs.inner.ByteTests.{is_special}
use Rattle.ged_line.proofs.bytes.line_ends.first_special.Given as goal

-- no special byte stands before the run
abbrev pub invariant-loop-at : goal.invariant-loop-at
invariant-loop-at l = Nowhere (Passes is_special l.bytes) 0 l.at

abbrev pub decreases-loop-at : goal.decreases-loop-at
decreases-loop-at l = length l.bytes - l.at
