use Rattle.std.proofs.Common.{◌≡◌, ◌<◌, drop, ◌+◌, ◌^◌}
use Rattle.ged_tree.specs.Trees.{lines_count}
use Rattle.ged_document.specs.Records.{record_trees}
use Rattle.ged_document.specs.inner.PathLines.{path_line}
use Rattle.ged_document.proofs.paths.find_among.Given as goal

-- the path is followed in the records that are left
abbrev pub invariant-loop-each : goal.invariant-loop-each
invariant-loop-each l =
    let left = record_trees (drop l.each-index l.records) in
    record {
      small : l.line + lines_count left < 2 ^ 63;
      told : path_line l.first (record_trees l.records) l.number l.path ≡ path_line l.line left l.left l.path;
    }
