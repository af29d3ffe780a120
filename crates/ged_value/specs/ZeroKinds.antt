-- Leading zeros in the payloads of a kind: a law of the kinds, the contract of a public function.
use Rattle.std.specs.Prelude.{◌≡◌, Bool, true, false, List}
use Rattle.std.specs.List.{All}
use Rattle.ged_value.specs.Words.{Bytes, words_of, joined}
use Rattle.ged_value.specs.Zeros.{has_leading_zero, trimmed_words, LeavesOutZero}
use Rattle.ged_value.specs.Kinds.{FitsLine}
use Rattle.ged_value.specs.declared.kind.Kind.{Kind}
use Rattle.ged_value.specs.declared.kind.Kind.TheVariants.{Integer, DateValue, DatePeriod, DateExact, Age}

-- The kind has Integers, whose leading zeros have no meaning. The digits of a time, of a version and of a word of a set are
-- no Integers.
abbrev pub has_integers : Kind → Bool
has_integers Integer = true
has_integers DateValue = true
has_integers DatePeriod = true
has_integers DateExact = true
has_integers Age = true
has_integers _ = false

-- What becomes of the lines that are of the kind when leading zeros are left out.
pub record FittingWithoutZeros (kind : Kind) : Type 0 where
  -- where a word of a line has a leading zero, there is a line of the words without it, and that is of the kind
  pub one_left_out : (line : Bytes) (fewer : List Bytes) → FitsLine kind line → LeavesOutZero (words_of line) fewer
      → (words_of (joined fewer) ≡ fewer) × FitsLine kind (joined fewer)
  -- with all of them left out there is a line of the trimmed words, which is of the kind
  pub all_left_out : (line : Bytes) → FitsLine kind line
      → (words_of (joined (trimmed_words line)) ≡ trimmed_words line) × FitsLine kind (joined (trimmed_words line))
  -- and no word of it has a leading zero
  pub none_is_left : (line : Bytes) → FitsLine kind line
      → All (λ word. has_leading_zero word ≡ false) (words_of (joined (trimmed_words line)))

abbrev pub IntegersFitWithoutZeros : Type 0
IntegersFitWithoutZeros = (kind : Kind) → has_integers kind ≡ true → FittingWithoutZeros kind
