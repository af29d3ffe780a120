use Rattle.std.proofs.Common.{◌≡◌, ◌+◌, ◌++◌, length, take, drop}
use Rattle.ged_canon.specs.inner.Gathered.{members, joined}
use Rattle.ged_canon.proofs.writer.gathered.write_groups.Given as goal

-- what is written, and the groups left, are all
abbrev pub invariant-loop-group : goal.invariant-loop-group
invariant-loop-group l =
    let left = joined (members (drop l.group-index l.groups)) in
    record {
      room : l.at + length left ≡ length l.siblings;
      whole : take l.at l.siblings ++ left ≡ joined (members l.groups);
    }
