use Rattle.std.proofs.Common.{◌≡◌, ◌<◌, ℕ, false, get_or, []}
use Rattle.std.specs.Str.{bytes_eq}
use Rattle.ged_value.specs.inner.Texts.{texts}
use Rattle.ged_value.proofs.split.around.Given as goal

-- the words so far are others
abbrev pub invariant-loop-place : goal.invariant-loop-place
invariant-loop-place l = (k : ℕ) → k < l.place → bytes_eq (get_or (texts l.words) k []) l.word ≡ false
