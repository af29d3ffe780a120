use Rattle.std.proofs.Common.{List}
use Rattle.ged_line.specs.Lines.{LineParts}
use Rattle.ged_tree.proofs.theory.ReadLines.{HaveReadFile}
use Rattle.ged_tree.proofs.laws.whole_files.document_or_fault_of_file.Given as goal

-- the pieces so far spell some lines
abbrev pub invariant-loop-piece : goal.invariant-loop-piece
invariant-loop-piece l = (lines : List LineParts) × HaveReadFile l.file lines l.piece-iterator
