use Rattle.std.proofs.Common.{◌∙◌}
use Rattle.ged_tool.specs.inner.FileTexts.{file_bytes}
use Rattle.ged_tool.specs.inner.Reading.{came_of}
use Rattle.ged_tool.proofs.runs.Running.{run_stops, run_answered, run_unanswered}
use Rattle.ged_tool.proofs.runs.one_file.run_told.Goals as goal

pub returns-in-Err-clause-bytes : goal.returns-in-Err-clause-bytes
returns-in-Err-clause-bytes g c =
    let (came, gave, stops) = c.in-Err.ensures.stopped in
    run_stops _ _ _ _ _ _ came _ c.in-Err.fault _ gave stops c.told_without.ensures.bytes c.told_without.ensures.outcome

pub returns-in-Ok-write_answer-clause-bytes : goal.returns-in-Ok-write_answer-clause-bytes
returns-in-Ok-write_answer-clause-bytes g c =
    let (text, answers, took) = rw c.text.ensures at c.in-Ok-write_answer.ensures.ok in
    rw c.into_bytes.ensures (run_answered _ _ _ _ _ _ _ (came_of c.in-Ok.file) text c.in-Ok.ensures.whole.0 c.in-Ok.ensures.whole.1 answers took)

pub returns-in-Err-write_answer-clause-bytes : goal.returns-in-Err-write_answer-clause-bytes
returns-in-Err-write_answer-clause-bytes g c =
    run_unanswered _ _ _ _ _ _ _ (came_of c.in-Ok.file) (file_bytes c.text.result) _ c.in-Err-write_answer.fault _ c.in-Ok.ensures.whole.0 c.in-Ok.ensures.whole.1
    c.in-Err-write_answer.ensures.err c.text.ensures (c.told_with.ensures.bytes ∙ c.into_bytes-in-Err-write_answer.ensures) c.told_with.ensures.outcome
