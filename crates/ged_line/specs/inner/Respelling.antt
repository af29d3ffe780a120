-- Nothing here need be believed: only private contracts and proofs cite it.
-- What contracts see of an answer that grows while lines are respelled.
use Rattle.std.specs.Prelude.{◌≡◌, ℕ, ◌-◌, ◌++◌, length, take}
use Rattle.ged_line.specs.Bytes.{Bytes}
use Rattle.ged_line.specs.inner.Reading.{IsRespelledBehind}

-- what is spelled, and what stands behind that in the file: lines that are spelled as they should be, then what is left
pub record Growing : Type 0 where
  pub text : Bytes
  pub pending : Bytes

abbrev pub growing : Bytes → Bytes → Growing
growing text pending = record { text = text; pending = pending }

abbrev pub EndsWith : Bytes → Bytes → Type 0
EndsWith pending left = (front : Bytes) × (pending ≡ front ++ left)

-- what is spelled where so many bytes are left
abbrev pub text_before : Bytes → Growing → Bytes
text_before left answer = answer.text ++ take (length answer.pending - length left) answer.pending

-- these bytes, with others behind them, were left; then those others are, and the lines of the bytes are spelled, of which
-- there are so many
pub record IsSpelledOn (bytes : Bytes) (count : ℕ) (behind : Bytes) (old new : Growing) : Type 0 where
  pub spelled : IsRespelledBehind bytes count (text_before (bytes ++ behind) old) (text_before behind new)
  pub pending : EndsWith new.pending behind
