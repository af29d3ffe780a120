use Rattle.std.proofs.Common.{◌≡◌, arith, get_or, inl, inr}
use Rattle.std.proofs.lemmas.Str.{IsCharBoundary-after_ascii}
use Rattle.ged_line.proofs.bytes.Cutting.{both_end_text, one_end_text, first_ascii}
use Rattle.ged_line.proofs.bytes.cut.text_after_end.Goals as goal
use Rattle.ged_line.proofs.bytes.cut.text_after_end.Goals.{else-bytes-gt1-via-then-bytes-gt1+else-bytes-eq10-2, else-bytes-gt1-via-else-bytes-gt1}

pub range_from-requires : goal.range_from-requires
range_from-requires c = λ l. IsCharBoundary-after_ascii c.args.text.now 0 c.utf8.text c.requires.some (first_ascii c.args.text.now c.requires.is_end)

pub returns-then-bytes-eq10 : goal.returns-then-bytes-eq10
returns-then-bytes-eq10 c = rw c.range_from.ensures.value
    (one_end_text c.args.text.now c.requires.some c.requires.is_end (λ e l.
    let feed : get_or c.args.text.now 0 0 ≡ 10 = rw c.as_bytes-bytes.ensures.value at c.if-bytes-eq10.true in
    absurd (omega arith)))

pub range_from-requires-then-bytes-eq10-2 : goal.range_from-requires-then-bytes-eq10-2
range_from-requires-then-bytes-eq10-2 c =
    let feed : get_or c.args.text.now 1 0 ≡ 10 = rw c.as_bytes-bytes.ensures.value at c.if-bytes-eq10-2.true in
    λ l. IsCharBoundary-after_ascii c.args.text.now 1 c.utf8.text (rw c.as_bytes-bytes.ensures.value at c.if-bytes-gt1.true) (omega arith)

pub returns-then-bytes-eq10-2 : goal.returns-then-bytes-eq10-2
returns-then-bytes-eq10-2 c =
    let other = rw c.as_bytes-bytes.ensures.value at c.if-bytes-eq10.false in
    let carriage : get_or c.args.text.now 0 0 ≡ 13 = elim c.requires.is_end [ inl e ↦ e | inr e ↦ absurd (other e) ] in
    rw c.range_from-then-bytes-eq10-2.ensures.value
    (both_end_text c.args.text.now (rw c.as_bytes-bytes.ensures.value at c.if-bytes-gt1.true) carriage (rw c.as_bytes-bytes.ensures.value at c.if-bytes-eq10-2.true))

pub range_from-requires-2 : goal.range_from-requires-2
range_from-requires-2 c = λ l. IsCharBoundary-after_ascii c.args.text.now 0 c.utf8.text c.requires.some (first_ascii c.args.text.now c.requires.is_end)

pub returns : goal.returns
returns c = rw c.range_from-2.ensures.value
    (one_end_text c.args.text.now c.requires.some c.requires.is_end (λ _ l.
    elim c.else-bytes-gt1.branch [
      | else-bytes-gt1-via-then-bytes-gt1+else-bytes-eq10-2 w ↦ rw c.as_bytes-bytes.ensures.value at w.if-bytes-eq10-2.false
      | else-bytes-gt1-via-else-bytes-gt1 w ↦ absurd (let short = rw c.as_bytes-bytes.ensures.value at w.if-bytes-gt1.false in omega arith)
    ]))
