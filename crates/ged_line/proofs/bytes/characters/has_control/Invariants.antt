use Rattle.std.proofs.Common.{ℕ, ◌<◌}
use Rattle.std.specs.Prelude.{MatchBool}
use Rattle.ged_line.specs.inner.ByteTests.{ControlAt}
use Rattle.ged_line.proofs.bytes.characters.has_control.Given as goal

abbrev pub invariant-loop-at : goal.invariant-loop-at
invariant-loop-at l = MatchBool l.found ((at : ℕ) × ControlAt l.bytes at) ((at : ℕ) → at < l.at → ¬ (ControlAt l.bytes at))
