use Rattle.ged_devices.proofs.CallerLemmas.{starts_before}
use Rattle.ged_tool.proofs.runs.Writing.{then_front}
use Rattle.ged_tool.proofs.runs.written.write_both.Goals as goal

pub returns-in-Err-clause-err : goal.returns-in-Err-clause-err
returns-in-Err-clause-err g c =
    let (failed, written, took, starts) = c.in-Err.ensures.err in
    (failed, written, took, starts_before c.args.first.now c.args.second.now written starts)

pub returns-in-Err-write_whole-clause-err : goal.returns-in-Err-write_whole-clause-err
returns-in-Err-write_whole-clause-err g c =
    let (failed, written, took, starts) = c.in-Err-write_whole.ensures.err in
    let (all, went, begins) = then_front _ _ _ c.args.first.now c.args.second.now written c.in-Ok.ensures.ok.1 took starts in
    (failed, all, went, begins)
