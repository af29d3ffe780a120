use Rattle.std.proofs.Common.{◌≡◌, ◌+◌, ◌-◌, ◌≤◌}
use Rattle.ged_tree.specs.Trees.{records_of}
use Rattle.ged_tree.specs.Runs.{trees_between, IsRunOfTrees}
use Rattle.ged_schema.specs.Checked.{count_of}
use Rattle.ged_uses.proofs.trees.count_records.Given as goal

-- those counted so far, and those among the records that are left, are all
abbrev pub invariant-loop-after : goal.invariant-loop-after
invariant-loop-after g l =
    let trees = g.F.Forest.trees l.forest in
    record {
      run : IsRunOfTrees trees l.place l.end;
      few : l.count ≤ l.place;
      counted : l.count + count_of l.tag (trees_between trees l.place l.end) ≡ count_of l.tag (records_of trees);
    }

abbrev pub decreases-loop-after : goal.decreases-loop-after
decreases-loop-after g l = l.end - l.place
