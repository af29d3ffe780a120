use Rattle.std.proofs.Common.{◌≡◌, ◌<◌, drop, ◌+◌, ◌^◌}
use Rattle.ged_tree.specs.Trees.{trees_count}
use Rattle.ged_document.specs.Records.{record_trees}
use Rattle.ged_tree.specs.Places.{line_at}
use Rattle.ged_tree.specs.Trees.{lines_count}
use Rattle.ged_document.proofs.walks.line_in_records.Given as goal

-- the place is looked for in the records that are left
abbrev pub invariant-loop-each : goal.invariant-loop-each
invariant-loop-each l =
    let left = record_trees (drop l.each-index l.records) in
    record {
      within : l.place < trees_count left;
      few : trees_count left < 2 ^ 63;
      small : l.line + lines_count left < 2 ^ 63;
      told : line_at l.first (record_trees l.records) l.start ≡ line_at l.line left l.place;
    }
