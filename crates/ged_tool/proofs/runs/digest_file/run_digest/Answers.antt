use Rattle.std.proofs.Common.{◌∙◌}
use Rattle.ged_tool.specs.inner.Reading.{came_of}
use Rattle.ged_tool.proofs.runs.Running.{run_stops, run_refused, run_answered, run_unwritten}
use Rattle.ged_tool.proofs.runs.digest_file.run_digest.Goals as goal

pub returns-in-Err-clause-bytes : goal.returns-in-Err-clause-bytes
returns-in-Err-clause-bytes g c =
    let (came, gave, stops) = c.in-Err.ensures.stopped in
    run_stops _ _ _ _ _ _ came _ c.in-Err.fault _ gave stops c.told_without.ensures.bytes c.told_without.ensures.outcome

pub returns-in-Err-line_of-clause-bytes : goal.returns-in-Err-line_of-clause-bytes
returns-in-Err-line_of-clause-bytes g c =
    run_refused _ _ _ _ _ _ (came_of c.in-Ok.file) _ c.in-Err-line_of.fault _ c.in-Ok.ensures.whole.0 c.in-Ok.ensures.whole.1
    (rw c.text.ensures at c.in-Err-line_of.ensures) (c.told_with.ensures.bytes ∙ c.into_bytes.ensures) c.told_with.ensures.outcome

pub returns-in-Ok-write_whole-clause-bytes : goal.returns-in-Ok-write_whole-clause-bytes
returns-in-Ok-write_whole-clause-bytes g c =
    rw c.into_bytes-in-Ok-write_whole.ensures (run_answered _ _ _ _ _ _ _ (came_of c.in-Ok.file) c.in-Ok-line_of.line.items c.in-Ok.ensures.whole.0 c.in-Ok.ensures.whole.1
    (rw c.text.ensures at c.in-Ok-line_of.ensures) (rw c.deref.ensures.value at c.in-Ok-write_whole.ensures.ok.1))

pub returns-clause-bytes : goal.returns-clause-bytes
returns-clause-bytes g c =
    let (failed, written, took, front) = c.in-Err-write_whole.ensures.err in
    run_unwritten _ _ _ _ _ _ _ (came_of c.in-Ok.file) c.in-Ok-line_of.line.items written _ _ c.in-Ok.ensures.whole.0 c.in-Ok.ensures.whole.1
    (rw c.text.ensures at c.in-Ok-line_of.ensures) took (rw c.deref.ensures.value at front) (c.told_with-in-Err-write_whole.ensures.bytes ∙ c.into_bytes-in-Err-write_whole.ensures) c.told_with-in-Err-write_whole.ensures.outcome
