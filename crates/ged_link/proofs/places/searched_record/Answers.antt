use Rattle.std.proofs.Common.{ℕ, ltb, rules}
use Rattle.std.proofs.lemmas.List.Sorted.{IsPartitionPoint-from_clause, IsPartitionedBy-ltb}
use Rattle.ged_link.proofs.KeptPlaces.{point_kept}
use Rattle.ged_link.proofs.places.searched_record.Goals as goal

pub returns-clause-found : goal.returns-clause-found
returns-clause-found c rising number kept =
    let parted = IsPartitionedBy-ltb (λ (k : ℕ). k) _ c.args.place rising in
    let point = IsPartitionPoint-from_clause (λ k. ltb k c.args.place) _ _ c.partition_point-cursor.ensures.partitioned parted (λ a r q k. search rules) in
    c.next_record-2.ensures.found (point_kept c.args.places.now c.args.place c.partition_point-cursor.result number rising point kept)
