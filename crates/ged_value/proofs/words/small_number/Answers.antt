use Rattle.std.proofs.Common.{◌≡◌, min, ◌+◌, ◌-◌, ◌*◌, ◌≤◌, get_or, arith, ◌∙◌}
use Rattle.ged_value.proofs.WordLaws.{digit_at, cut_step, integer_digits}
use Rattle.ged_value.proofs.words.small_number.Goals as goal
use Rattle.ged_value.proofs.words.small_number.Goals.{then-value-lt100, else-value-lt100}

pub loop-digit-preserved : goal.loop-digit-preserved
loop-digit-preserved c =
    let xs = c.as_bytes-digit-items.result.now in
    let i = c.loop-digit.digit-index in
    let range = digit_at xs i c.loop-digit-test.true (integer_digits xs (rw c.as_bytes-digit-items.ensures.value c.requires)) in
    let small : c.if-value-lt100.value ≤ 1000 = elim c.if-value-lt100.branch [ then-value-lt100 w ↦ omega arith | else-value-lt100 w ↦ omega arith ] in
    let cut : min 1000 c.if-value-lt100.value ≡ min 1000 (10 * c.loop-digit.value + (get_or xs i 0 - 48)) =
    elim c.if-value-lt100.branch [ then-value-lt100 w ↦ omega (arith, w.value-is) | else-value-lt100 w ↦ omega arith ] in
    record {
      small = small;
      same = cut_step xs i c.loop-digit.value c.if-value-lt100.value c.loop-digit-test.true cut ∙ c.loop-digit.invariant.same;
      of_text = c.loop-digit.invariant.of_text;
    }
