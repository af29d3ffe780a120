use Rattle.std.proofs.Common.{◌≡◌, ◌++◌, length}
use Rattle.ged_canon.specs.SpelledForms.{joined_runs}
use Rattle.ged_canon.proofs.spelled.reader.Pieces.next_piece.Given as goal

-- nothing was read so far
abbrev pub invariant-loop-self : goal.invariant-loop-self
invariant-loop-self l =
    l.self-inside.kept.now ++ joined_runs l.self-inside.file.now l.self-inside.runs.now l.self-inside.made.now ≡ l.fn.self

abbrev pub decreases-loop-self : goal.decreases-loop-self
decreases-loop-self l = length l.self-inside.runs.now
