use Rattle.std.proofs.Common.{◌≡◌, min, ◌≤◌, drop}
use Rattle.ged_value.specs.Words.{number}
use Rattle.ged_value.specs.inner.Numerals.{number_after}
use Rattle.ged_value.proofs.words.small_number.Given as goal

-- the digits to come make the same number of what has come
abbrev pub invariant-loop-digit : goal.invariant-loop-digit
invariant-loop-digit l = record {
  small : l.value ≤ 1000;
  same : min 1000 (number_after l.value (drop l.digit-index l.digit-items)) ≡ min 1000 (number l.digit-items);
  of_text : l.digit-items ≡ l.digits;
}
