use Rattle.std.proofs.Common.{◌∙◌, subst}
use Rattle.ged_devices.specs.Buffers.{GoesThrough}
use Rattle.ged_devices.proofs.CallerLemmas.{through_both, stops_behind}
use Rattle.ged_accept.proofs.Showing.{on_err}
use Rattle.ged_accept.proofs.show.write_deep_level.Goals as goal

pub returns-in_err-write_buffered-2-clause-err : goal.returns-in_err-write_buffered-2-clause-err
returns-in_err-write_buffered-2-clause-err g c =
    let digits = subst (GoesThrough _ _ _ _) (c.as_bytes.ensures.value ∙ c.format.ensures.text) c.in_ok-write_buffered.ensures.ok.1 in
    on_err c.from_residual-in_err-write_buffered-2.result c.in_err-write_buffered-2.ensures.err.0 (stops_behind digits c.in_err-write_buffered-2.ensures.err.1)

pub returns-clause-ok : goal.returns-clause-ok
returns-clause-ok g c =
    let digits = subst (GoesThrough _ _ _ _) (c.as_bytes.ensures.value ∙ c.format.ensures.text) c.in_ok-write_buffered.ensures.ok.1 in
    (c.in_ok-write_buffered-2.ensures.ok.0, through_both digits c.in_ok-write_buffered-2.ensures.ok.1)
