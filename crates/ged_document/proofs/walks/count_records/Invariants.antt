use Rattle.std.proofs.Common.{◌≡◌, drop, ◌+◌}
use Rattle.ged_tree.specs.Trees.{trees_count}
use Rattle.ged_document.specs.Records.{record_trees}
use Rattle.ged_document.proofs.walks.count_records.Given as goal

abbrev pub invariant-loop-each : goal.invariant-loop-each
invariant-loop-each l = l.total + trees_count (record_trees (drop l.each-index l.records)) ≡ trees_count (record_trees l.records)
