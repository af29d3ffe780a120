use Rattle.std.proofs.Common.{length, ◌-◌}
use Rattle.ged_canon.proofs.writer.gathered.place_of.Given as goal

abbrev pub decreases-loop-at : goal.decreases-loop-at
decreases-loop-at l = length l.ranks - l.at
