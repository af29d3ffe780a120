use Rattle.std.proofs.Common.{ℕ, ◌<◌, ◌+◌}
use Rattle.std.specs.Prelude.{MatchBool}
use Rattle.ged_line.specs.inner.ByteTests.{NoncharacterAt}
use Rattle.ged_line.proofs.bytes.characters.has_noncharacter.Given as goal

abbrev pub invariant-loop-third : goal.invariant-loop-third
invariant-loop-third l = MatchBool l.found ((at : ℕ) × NoncharacterAt l.bytes at) ((at : ℕ) → at + 2 < l.third → ¬ (NoncharacterAt l.bytes at))
