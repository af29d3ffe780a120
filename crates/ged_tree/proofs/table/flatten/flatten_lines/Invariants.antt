use Rattle.std.proofs.Common.{[]}
use Rattle.ged_tree.proofs.table.Flattening.{HasTaken}
use Rattle.ged_tree.proofs.table.flatten.flatten_lines.Given as goal

-- the pieces so far spell the lines of the table, which the reader has read
abbrev pub invariant-loop-line : goal.invariant-loop-line
invariant-loop-line g l = record {
  taken : HasTaken l.bytes l.table l.line-iterator;
  read : g.R.LineReader.has_read l.fn.reader [] → g.R.LineReader.has_read l.reader taken.lines;
}
