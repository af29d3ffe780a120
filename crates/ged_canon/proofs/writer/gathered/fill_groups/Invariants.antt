use Rattle.std.proofs.Common.{◌≡◌, take}
use Rattle.std.specs.List.{AllByRecursion}
use Rattle.ged_canon.specs.inner.Gathered.{IsAmongRanks, groups_of, members}
use Rattle.ged_canon.proofs.writer.gathered.fill_groups.Given as goal

-- the groups hold the siblings so far
abbrev pub invariant-loop-each : goal.invariant-loop-each
invariant-loop-each l =
    let done = take l.each-index l.siblings in
    record {
      filled : members l.groups ≡ groups_of l.ranks done;
      among : AllByRecursion (IsAmongRanks l.ranks) done;
    }
