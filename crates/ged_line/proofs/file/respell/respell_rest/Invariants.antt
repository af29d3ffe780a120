use Rattle.std.proofs.Common.{length}
use Rattle.ged_line.specs.Pieces.{pieces_of}
use Rattle.ged_line.specs.inner.Respelling.{EndsWith, text_before}
use Rattle.ged_line.proofs.file.Respelling.{HaveRespelled}
use Rattle.ged_line.proofs.file.respell.respell_rest.Given as goal

-- the lines of the blocks so far are respelled, or pending
abbrev pub invariant-loop-unread : goal.invariant-loop-unread
invariant-loop-unread l = EndsWith l.answer.pending l.unread
    × HaveRespelled l.bytes l.lines (pieces_of l.unread) (text_before l.bytes l.fn.answer) (text_before l.unread l.answer)

abbrev pub decreases-loop-unread : goal.decreases-loop-unread
decreases-loop-unread l = length l.unread
