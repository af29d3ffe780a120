use Rattle.std.proofs.Common.{[], ltb, rules}
use Rattle.std.proofs.lemmas.List.Sorted.{IsPartitionPoint-from_clause, IsPartitionedBy-ltb}
use Rattle.ged_tree.specs.declared.table.packed.TextApart.{TextApart}
use Rattle.ged_tree.proofs.table.Apart.{found_apart}
use Rattle.ged_tree.proofs.table.packed.text_apart.Goals as goal

pub bounds-apart-index : goal.bounds-apart-index
bounds-apart-index c =
    let d : TextApart = record { place = 0; text = record { ref_ptr = (0, 0); now = [] } } in
    let parted = IsPartitionedBy-ltb (λ text. text.place) _ c.args.place c.requires.in_order in
    let point = IsPartitionPoint-from_clause (λ text. ltb text.place c.args.place) _ _ c.partition_point-index.ensures.partitioned parted (λ a r q k. search rules) in
    (found_apart c.args.place c.args.apart.now c.partition_point-index.result d c.requires.in_order c.requires.some c.partition_point-index.ensures.bound point).0

pub returns : goal.returns
returns c =
    let d : TextApart = record { place = 0; text = record { ref_ptr = (0, 0); now = [] } } in
    let parted = IsPartitionedBy-ltb (λ text. text.place) _ c.args.place c.requires.in_order in
    let point = IsPartitionPoint-from_clause (λ text. ltb text.place c.args.place) _ _ c.partition_point-index.ensures.partitioned parted (λ a r q k. search rules) in
    (found_apart c.args.place c.args.apart.now c.partition_point-index.result d c.requires.in_order c.requires.some c.partition_point-index.ensures.bound point).1
