use Rattle.std.proofs.Common.{◌≡◌, false}
use Rattle.ged_tool.proofs.runs.Writing.{AreWritten}
use Rattle.ged_tool.proofs.runs.written.write_parts.Given as goal

-- the parts so far were written
abbrev pub invariant-loop-part : goal.invariant-loop-part
invariant-loop-part g l =
    (g.W.Sink.failed l.writer ≡ false) × (g.W.Sink.fate l.writer ≡ g.W.Sink.fate l.fn.writer)
    × AreWritten (g.W.Sink.taken l.fn.writer) (g.W.Sink.taken l.writer) l.parts l.part-index
