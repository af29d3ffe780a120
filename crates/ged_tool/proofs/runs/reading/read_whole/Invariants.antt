use Rattle.std.proofs.Common.{◌≡◌, ◌≤◌, false, length, vec_len}
use Rattle.std.specs.Io.KnownBytes.{Consumes}
use Rattle.ged_tool.specs.Limits.{greatest_read}
use Rattle.ged_tool.specs.inner.Reading.{came_of}
use Rattle.ged_tool.proofs.runs.reading.read_whole.Given as goal

-- the calls so far each gave a byte at least, and what they gave is held
abbrev pub invariant-loop : goal.invariant-loop
invariant-loop g l = record {
  within : length (came_of l.file) ≤ l.limit;
  calls : g.R.Source.reads l.reader ≡ l.counter;
  moves : l.counter ≤ length (came_of l.file);
  room : vec_len l.chunk ≡ greatest_read;
  sound : g.R.Source.failed l.reader ≡ false;
  before : l.file.before.now ≡ l.fn.before;
  came : Consumes (g.R.Source.to_come l.fn.reader) (g.R.Source.to_come l.reader) (came_of l.file);
}
