use Rattle.std.proofs.Common.{◌<◌, ◌≤◌, ◌-◌, length}
use Rattle.ged_link.proofs.groups.group_end.Given as goal

abbrev pub invariant-loop-end : goal.invariant-loop-end
invariant-loop-end l = record {
  forth : l.start < l.end;
  within : l.end ≤ length l.pairs;
}

abbrev pub decreases-loop-end : goal.decreases-loop-end
decreases-loop-end l = length l.pairs - l.end
