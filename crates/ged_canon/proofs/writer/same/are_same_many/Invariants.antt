use Rattle.std.proofs.Common.{◌≡◌, ◌-◌, ◌<◌, ◌+◌, take}
use Rattle.ged_canon.proofs.writer.same.are_same_many.Given as goal

-- both texts are the same up to the place
abbrev pub invariant-loop-at : goal.invariant-loop-at
invariant-loop-at l = record {
  within : l.at < l.last + 16;
  same : take l.at l.text ≡ take l.at l.other;
}

abbrev pub decreases-loop-at : goal.decreases-loop-at
decreases-loop-at l = l.last - l.at
