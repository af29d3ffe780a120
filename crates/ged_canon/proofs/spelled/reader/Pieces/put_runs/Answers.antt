use Rattle.ged_canon.proofs.spelled.Filling.{put_more}
use Rattle.ged_canon.proofs.spelled.reader.Pieces.put_runs.Goals as goal

pub returns-then-count-eq0-clause-behind : goal.returns-then-count-eq0-clause-behind
returns-then-count-eq0-clause-behind c =
    let run = c.put_run-count in
    (put_more _ _ _ _ _ run.new.buffer c.loop-put.put run.result c.loop-put.invariant run.ensures.count run.ensures.few run.ensures.length run.ensures.front run.ensures.behind run.ensures.rest).behind

pub loop-put-preserved : goal.loop-put-preserved
loop-put-preserved c =
    let run = c.put_run-count in
    put_more _ _ _ _ _ run.new.buffer c.loop-put.put run.result c.loop-put.invariant run.ensures.count run.ensures.few run.ensures.length run.ensures.front run.ensures.behind run.ensures.rest
