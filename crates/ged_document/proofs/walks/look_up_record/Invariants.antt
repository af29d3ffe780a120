use Rattle.std.proofs.Common.{◌≡◌, ◌<◌, drop, ◌^◌, true}
use Rattle.ged_tree.specs.Trees.{trees_count}
use Rattle.ged_tree.specs.Places.{trees_from, level_at}
use Rattle.ged_tree.specs.inner.Walks.{are_levels}
use Rattle.ged_document.specs.Records.{record_trees}
use Rattle.ged_document.proofs.walks.look_up_record.Given as goal

-- the place is looked for in the records that are left
abbrev pub invariant-loop-each : goal.invariant-loop-each
invariant-loop-each l =
    let left = record_trees (drop l.each-index l.records) in
    record {
      within : l.place < trees_count left;
      few : trees_count left < 2 ^ 63;
      levels : are_levels 0 left ≡ true;
      found : trees_from (record_trees l.records) l.start ≡ trees_from left l.place;
      level : level_at 0 (record_trees l.records) l.start ≡ level_at 0 left l.place;
    }
