use Rattle.std.proofs.Common.{◌≡◌, ◌++◌, false, length}
use Rattle.std.specs.Io.KnownBytes.{Appends}
use Rattle.ged_line.specs.Bytes.{Bytes}
use Rattle.ged_tool.proofs.runs.written.write_through.Given as goal

-- what was read was written
abbrev pub invariant-loop-reader : goal.invariant-loop-reader
invariant-loop-reader g l =
    (g.W.Sink.failed l.writer ≡ false) × (length l.buffer ≡ length l.fn.buffer) × (g.W.Sink.fate l.writer ≡ g.W.Sink.fate l.fn.writer)
    × ((front : Bytes) × (l.fn.reader ≡ front ++ l.reader) × Appends (g.W.Sink.taken l.fn.writer) (g.W.Sink.taken l.writer) front)

abbrev pub decreases-loop-reader : goal.decreases-loop-reader
decreases-loop-reader g l = length l.reader
