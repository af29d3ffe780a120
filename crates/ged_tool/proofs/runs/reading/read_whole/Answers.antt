use Rattle.std.proofs.Common.{◌++◌, take, arith, length-append}
use Rattle.std.proofs.KnownBytes.{Consumes-trans}
use Rattle.ged_tool.specs.inner.Reading.{came_of}
use Rattle.ged_tool.proofs.runs.reading.read_whole.Goals as goal

-- in both, what came is what is held and what the last call gave
pub returns-then-len-count-clause-stopped : goal.returns-then-len-count-clause-stopped
returns-then-len-count-clause-stopped g c =
    let held = came_of c.loop.file in
    let gave = take c.in-Ok-read.count c.read.new.buf in
    let long = length-append held gave in (
      held ++ gave,
      Consumes-trans _ _ _ held gave c.loop.invariant.came c.in-Ok-read.ensures.bytes.0,
      record {
        above = omega (arith, c.in-Ok-read.ensures.bound.1);
        stopped = omega (arith, c.in-Ok-read.ensures.bound.0, c.in-Ok-read.ensures.bound.1, c.read.auto.buf, c.deref_mut.ensures.len, c.loop.invariant.room);
      },
    )

pub returns-in-Err-push-clause-stopped : goal.returns-in-Err-push-clause-stopped
returns-in-Err-push-clause-stopped g c =
    let held = came_of c.loop.file in
    let gave = take c.in-Ok-read.count c.read.new.buf in
    let long = length-append held gave in (
      held ++ gave,
      Consumes-trans _ _ _ held gave c.loop.invariant.came c.in-Ok-read.ensures.bytes.0,
      omega (arith, c.in-Ok-read.ensures.bound.1),
    )
