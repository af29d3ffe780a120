use Rattle.std.proofs.Common.{length, ◌-◌, ◌≡◌, ◌≤◌, take, false}
use Rattle.std.specs.Io.KnownBytes.{Appends}
use Rattle.ged_devices.proofs.buffered.write_whole.Given as goal

abbrev pub invariant-loop-at : goal.invariant-loop-at
invariant-loop-at g l = (l.at ≤ length l.text) × (g.W.Sink.failed l.writer ≡ false) × (g.W.Sink.fate l.writer ≡ g.W.Sink.fate l.fn.writer)
    × Appends (g.W.Sink.taken l.fn.writer) (g.W.Sink.taken l.writer) (take l.at l.text)

abbrev pub decreases-loop-at : goal.decreases-loop-at
decreases-loop-at g l = length l.text - l.at
