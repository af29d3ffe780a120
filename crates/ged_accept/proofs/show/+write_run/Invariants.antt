use Rattle.std.proofs.Common.{◌-◌, ◌≤◌, ◌≡◌, false}
use Rattle.ged_tree.specs.Runs.{trees_between, IsRunOfTrees}
use Rattle.ged_accept.specs.Shown.{shown}
use Rattle.ged_accept.proofs.Showing.{HasShown}
use Rattle.ged_accept.proofs.show.+write_run.Given as goal

abbrev pub decreases-write_run : goal.decreases-write_run
decreases-write_run g l = l.end - l.start

abbrev pub invariant-loop-after : goal.invariant-loop-after
invariant-loop-after g l =
    let trees = g.F.Forest.trees l.forest in
    record {
      run : IsRunOfTrees trees l.place l.end;
      ahead : l.start ≤ l.place;
      failed : g.W.Sink.failed l.writer ≡ false;
      fate : g.W.Sink.fate l.writer ≡ g.W.Sink.fate l.fn.writer;
      told : HasShown (g.W.Sink.taken l.fn.writer) (g.W.Sink.taken l.writer) l.fn.buffer.items l.buffer.items
          (shown l.level l.fn.context (trees_between trees l.start l.end)) (shown l.level l.fn.context (trees_between trees l.place l.end));
    }

abbrev pub decreases-loop-after : goal.decreases-loop-after
decreases-loop-after g l = l.end - l.place
