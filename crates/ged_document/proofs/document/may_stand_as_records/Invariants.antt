use Rattle.std.proofs.Common.{◌≡◌, drop}
use Rattle.ged_tree.specs.Documents.{are_at}
use Rattle.ged_document.specs.Records.{record_trees}
use Rattle.ged_document.proofs.document.may_stand_as_records.Given as goal

abbrev pub invariant-loop-each : goal.invariant-loop-each
invariant-loop-each l = are_at 0 (record_trees l.records) ≡ are_at 0 (record_trees (drop l.each-index l.records))
