use Rattle.std.proofs.Common.{◌≡◌, ◌<◌, []}
use Rattle.std.specs.List.{AllByRecursion}
use Rattle.ged_canon.specs.inner.Gathered.{IsRising, groups_of, members}
use Rattle.ged_canon.proofs.writer.gathered.make_groups.Given as goal

-- so far the ranks rise, below the least that may come, and nothing stands in the groups
abbrev pub invariant-loop-tally : goal.invariant-loop-tally
invariant-loop-tally l = record {
  rising : IsRising l.ranks.items;
  below : AllByRecursion (λ rank. rank < l.least) l.ranks.items;
  empty : members l.groups.items ≡ groups_of l.ranks.items [];
}
