use Rattle.ged_line.proofs.file.FileLaws.{HaveReadFile}
use Rattle.ged_line.proofs.owned.lines.read_pieces.Given as goal

-- the pieces so far spell the lines
abbrev pub invariant-loop-piece : goal.invariant-loop-piece
invariant-loop-piece l = HaveReadFile l.bytes l.lines.items l.piece-iterator
