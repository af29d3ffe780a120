use Rattle.std.proofs.Common.{length, []}
use denote.Text.{Utf8}
use denote.Shadow.{shadow}
use Rattle.ged_tree.proofs.table.Flattening.{HasTakenIn}
use Rattle.ged_tree.proofs.table.flatten.flatten_into.Given as goal

-- the pieces so far spell the lines of the table, which the reader has read
abbrev pub invariant-loop-line : goal.invariant-loop-line
invariant-loop-line g l = record {
  utf8 : shadow (Utf8 l.rest);
  taken : HasTakenIn l.text l.table l.rest;
  read : g.R.LineReader.has_read l.fn.reader [] → g.R.LineReader.has_read l.reader taken.lines;
}

abbrev pub decreases-loop-line : goal.decreases-loop-line
decreases-loop-line g l = length l.rest
