use Rattle.std.proofs.Common.{◌-◌, ◌≡◌, true}
use Rattle.ged_tree.specs.Documents.{are_at}
use Rattle.ged_document.specs.Records.{record_trees}
use Rattle.ged_tree.specs.Runs.{trees_between, IsRunOfTrees}
use Rattle.ged_tree.proofs.CallerLemmas.{beside}
use Rattle.ged_document.proofs.copying.copy_records.Given as goal

abbrev pub invariant-loop-after : goal.invariant-loop-after
invariant-loop-after g l =
    let trees = g.F.Forest.trees l.forest in
    record {
      run : IsRunOfTrees trees l.place l.end;
      fits : are_at 0 (trees_between trees l.place l.end) ≡ true;
      told : beside (record_trees l.records.items) (trees_between trees l.place l.end) ≡ trees_between trees l.start l.end;
    }

abbrev pub decreases-loop-after : goal.decreases-loop-after
decreases-loop-after g l = l.end - l.place
