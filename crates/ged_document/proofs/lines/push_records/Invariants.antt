use Rattle.std.proofs.Common.{◌≡◌, ◌++◌, drop}
use Rattle.ged_tree.specs.inner.Walks.{HaveLinesAt}
use Rattle.ged_document.specs.Records.{record_trees}
use Rattle.ged_tree.specs.DocumentLines.{lines_of}
use Rattle.ged_document.proofs.lines.push_records.Given as goal

abbrev pub invariant-loop-each : goal.invariant-loop-each
invariant-loop-each l =
    let left = record_trees (drop l.each-index l.records) in
    record {
      told : l.lines.items ++ lines_of 0 left ≡ l.fn.lines.items ++ lines_of 0 (record_trees l.records);
      stand : HaveLinesAt 0 left;
    }
