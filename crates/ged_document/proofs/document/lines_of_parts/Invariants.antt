use Rattle.std.proofs.Common.{◌≡◌, ◌<◌, drop, ◌+◌, ◌^◌, ◌-◌}
use Rattle.ged_tree.specs.Trees.{lines_count}
use Rattle.ged_document.specs.Records.{document_trees, record_trees}
use Rattle.ged_document.proofs.document.lines_of_parts.Given as goal

-- the room left and the room used are the room given
abbrev pub invariant-loop-each : goal.invariant-loop-each
invariant-loop-each l = (l.left < 2 ^ 63 - 1) × (l.left + (lines_count (document_trees l.head l.records) + 1) ≡ (2 ^ 63 - 1) + lines_count (record_trees (drop l.each-index l.records)))
