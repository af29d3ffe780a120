use Rattle.ged_line.proofs.file.Respelling.{HaveRespelled}
use Rattle.ged_line.proofs.file.respell.respell_pieces.Given as goal

-- the lines so far are respelled
abbrev pub invariant-loop-piece : goal.invariant-loop-piece
invariant-loop-piece l = HaveRespelled l.bytes l.line l.piece-iterator l.fn.out.items l.out.items
