use Rattle.std.proofs.Common.{◌≡◌, drop}
use Rattle.ged_tree.specs.Documents.{are_records}
use Rattle.ged_document.specs.Records.{record_trees}
use Rattle.ged_document.proofs.document.have_record_tags.Given as goal

abbrev pub invariant-loop-each : goal.invariant-loop-each
invariant-loop-each l = are_records (record_trees l.records) ≡ are_records (record_trees (drop l.each-index l.records))
