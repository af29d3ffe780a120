use Rattle.std.proofs.Common.{◌≡◌, ◌≤◌, ◌-◌, ◌++◌, true, slice_range}
use Rattle.ged_line.specs.Bytes.{Bytes}
use Rattle.ged_line.specs.Spelling.{spelled_lines}
use Rattle.ged_tree.specs.Documents.{are_at}
use Rattle.ged_tree.specs.DocumentLines.{lines_of}
use Rattle.ged_tree.specs.Runs.{IsRunOfTrees, trees_between}
use Rattle.ged_schema.specs.declared.context.Context.{Context}
use Rattle.ged_canon.specs.Steps.{renamed}
use Rattle.ged_canon.specs.inner.Working.{each_sorted}
use Rattle.ged_canon.proofs.writer.plan.Writer.few_leaves_run.Given as goal

-- in each context, the lines that stand together so far, and those of what is left of the run, are the lines of the run
abbrev pub invariant-loop-after : goal.invariant-loop-after
invariant-loop-after g l =
    let d = g.F.Forest.trees l.self.forest.now in
    let edition = l.self.plan.edition in
    record {
      run : IsRunOfTrees d l.place l.end;
      order : l.first ≤ l.last;
      stand : (context : Context) → are_at l.level (each_sorted edition context (trees_between d l.start l.end)) ≡ true → are_at l.level (each_sorted edition context (trees_between d l.place l.end)) ≡ true;
      told : (new : Bytes → Bytes) (context : Context) → are_at l.level (each_sorted edition context (trees_between d l.start l.end)) ≡ true →
          slice_range l.self.plan.file.now l.first l.last ++ spelled_lines (lines_of l.level (renamed new (each_sorted edition context (trees_between d l.place l.end))))
          ≡ spelled_lines (lines_of l.level (renamed new (each_sorted edition context (trees_between d l.start l.end))));
    }

abbrev pub decreases-loop-after : goal.decreases-loop-after
decreases-loop-after g l = l.end - l.place
