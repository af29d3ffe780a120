use Rattle.std.proofs.Common.{◌-◌}
use Rattle.ged_tree.specs.Runs.{IsRunOfTrees}
use Rattle.ged_canon.proofs.writer.alike_runs.have_same_tags.Given as goal

-- what is left of either is a run
abbrev pub invariant-loop-after : goal.invariant-loop-after
invariant-loop-after g l = record {
  run : IsRunOfTrees (g.F.Forest.trees l.forest) l.place l.run.end;
  other : IsRunOfTrees (g.G.Forest.trees l.other_forest) l.other_place l.other.end;
}

abbrev pub decreases-loop-after : goal.decreases-loop-after
decreases-loop-after g l = l.run.end - l.place
