use Rattle.std.proofs.Common.{leb, rules}
use Rattle.std.proofs.lemmas.List.Sorted.{IsPartitionPoint-from_clause, IsPartitionedBy-leb}
use Rattle.ged_tree.proofs.table.Continuations.{point_is}
use Rattle.ged_tree.proofs.forest.continuations.count_before.Goals as goal

pub returns-clause-count : goal.returns-clause-count
returns-clause-count c = λ rising.
    let place = c.args.place in
    let parted = IsPartitionedBy-leb (λ line. line.after) _ place rising in
    let point = IsPartitionPoint-from_clause (λ line. leb line.after place) _ _ c.partition_point.ensures.partitioned parted (λ a r q k. search rules) in
    point_is (λ line. line.after) place c.args.slices.now c.partition_point.result c.partition_point.ensures.bound point
