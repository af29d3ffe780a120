use Rattle.ged_devices.proofs.Buffering.{through_both, through_past, stops_behind, stops_past}
use Rattle.ged_devices.proofs.buffered.write_behind.Goals as goal

pub returns-in-Ok-clause-ok : goal.returns-in-Ok-clause-ok
returns-in-Ok-clause-ok g c = (
  c.in-Ok.ensures.ok.0,
  through_both c.in_ok-flush_buffer.ensures.ok.1
      (through_past _ _ c.flush_buffer.new.buffer.items c.args.text.now c.in-Ok.ensures.ok.1 c.in_ok-flush_buffer.ensures.empty),
)

pub returns-in-Err-clause-err : goal.returns-in-Err-clause-err
returns-in-Err-clause-err g c =
    let (failed, written, took, front) = c.in-Err.ensures.err in
    (failed, stops_behind c.in_ok-flush_buffer.ensures.ok.1 (stops_past _ _ c.args.text.now written took front))
