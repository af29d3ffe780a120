use Rattle.std.proofs.Common.{◌≡◌, ◌<◌, ◌∙◌, ap, arith, leb, length, map, rules, sym}
use Rattle.std.proofs.lemmas.List.{length-map}
use Rattle.std.proofs.lemmas.List.Sorted.{IsPartitionPoint-from_clause, IsPartitionedBy-leb}
use Rattle.ged_tree.specs.Rows.{further_before}
use Rattle.ged_tree.specs.declared.forest.continuations.FurtherApart.{FurtherApart}
use Rattle.ged_tree.specs.declared.forest.continuations.FurtherSlice.{FurtherSlice}
use Rattle.ged_tree.proofs.table.Continuations.{before_behind, before_most, before_within_first, places_of_table, point_is}
use Rattle.ged_tree.proofs.forest.continuations.FurtherTable.before.Goals as goal

pub returns-then-before-len : goal.returns-then-before-len
returns-then-before-len c = λ file.
    let table = c.args.self.now in
    let place = c.args.place in
    let first = map (λ (line : FurtherSlice). line.after) table.slices.items in
    let last = map (λ (line : FurtherApart). line.after) table.apart.items in
    let is = c.slices_before-before.ensures.count in
    let some : further_before place first < length first = omega (arith, is, c.if-before-len.true, c.len.ensures, table.slices.ok.0, length-map table.slices.items (λ (line : FurtherSlice). line.after)) in
    is ∙ sym (before_within_first place first last some) ∙ ap (further_before place) (sym (places_of_table file table))

pub returns : goal.returns
returns c = λ file.
    let table = c.args.self.now in
    let place = c.args.place in
    let first = map (λ (line : FurtherSlice). line.after) table.slices.items in
    let last = map (λ (line : FurtherApart). line.after) table.apart.items in
    let is = c.slices_before-before.ensures.count in
    let parted_2 = IsPartitionedBy-leb (λ line. line.after) _ place c.requires.apart in
    let point_2 = IsPartitionPoint-from_clause (λ line. leb line.after place) _ _ (rw c.deref.ensures.value at c.partition_point.ensures.partitioned) parted_2 (λ a r q k. search rules) in
    let is_2 = point_is (λ line. line.after) place table.apart.items c.partition_point.result (rw c.deref.ensures.value at c.partition_point.ensures.bound) point_2 in
    let all : further_before place first ≡ length first = omega (arith, is, before_most place first, c.if-before-len.false, c.len.ensures, table.slices.ok.0, length-map table.slices.items (λ (line : FurtherSlice). line.after)) in
    let whole = before_behind place first last all in
    omega (arith, is, is_2, all, whole) ∙ ap (further_before place) (sym (places_of_table file table))
