use Rattle.std.proofs.Common.{◌≡◌, ◌++◌, true, drop, take}
use Rattle.std.specs.List.{AllByRecursion}
use Rattle.ged_line.specs.Lines.{is_line}
use Rattle.ged_line.specs.Spelling.{spelled_lines, file_of}
use Rattle.ged_line.proofs.owned.write.write_lines.Given as goal

-- the bytes so far and those of the lines that are left are the file's
abbrev pub invariant-loop-line : goal.invariant-loop-line
invariant-loop-line l = record {
  bytes : l.out.items ++ spelled_lines (drop l.line-index l.lines) ≡ file_of l.lines;
  are_lines : AllByRecursion (λ line. is_line line ≡ true) (take l.line-index l.lines);
}
