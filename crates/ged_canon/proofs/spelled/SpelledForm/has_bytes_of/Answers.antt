use Rattle.std.proofs.Common.{◌≤◌, ◌++◌, ◌∙◌, eqb-true, eq-eqb, not, ap, sym, length, arith}
use Rattle.std.proofs.lemmas.Bool.{false≢true}
use Rattle.ged_canon.proofs.theory.Texts.{same_bytes, equal_bytes}
use Rattle.ged_canon.proofs.spelled.Comparing.{not_other, left_equal, all_equal, equal_ends, fronts_equal, compared_more}
use Rattle.ged_canon.proofs.spelled.SpelledForm.has_bytes_of.Goals as goal

pub returns-then-count-eq0 : goal.returns-then-count-eq0
returns-then-count-eq0 c =
    let (front, was, also) = c.loop-pieces.invariant in
    let left = c.left_or_next-left.result.now in
    let more = c.left_or_next-left.new.self in
    let right = c.left_or_next-right.result.now in
    let others = c.left_or_next-right.new.self in
    let now = was ∙ ap (λ xs. front ++ xs) c.left_or_next-left.ensures.whole in
    let other_now = also ∙ ap (λ xs. front ++ xs) c.left_or_next-right.ensures.whole in
    let ends = equal_ends left more right others c.left_or_next-left.ensures.some c.left_or_next-right.ensures.some (sym c.shorter-count.ensures ∙ c.if-count-eq0.true) in (
      (λ same. all_equal _ _ front (left ++ more) (right ++ others) now other_now (ends.0 (eqb-true (length left) (length right) same))),
      (λ same. eq-eqb (length left) (length right) (ends.1 (left_equal _ _ front (left ++ more) (right ++ others) now other_now same))),
    )

pub returns-then-ne : goal.returns-then-ne
returns-then-ne c =
    let (front, was, also) = c.loop-pieces.invariant in
    let left = c.left_or_next-left.result.now in
    let more = c.left_or_next-left.new.self in
    let right = c.left_or_next-right.result.now in
    let others = c.left_or_next-right.new.self in
    let n = c.shorter-count.result in
    let now = was ∙ ap (λ xs. front ++ xs) c.left_or_next-left.ensures.whole in
    let other_now = also ∙ ap (λ xs. front ++ xs) c.left_or_next-right.ensures.whole in
    let within : n ≤ length left = omega (arith, c.shorter-count.ensures) in
    let other_within : n ≤ length right = omega (arith, c.shorter-count.ensures) in (
      (λ e. absurd (false≢true e)),
      (λ same.
          let fronts = fronts_equal left more right others n within other_within (left_equal _ _ front (left ++ more) (right ++ others) now other_now same) in
          let equal = same_bytes c.split_at.result.0.now c.split_at-in-loop-pieces.result.0.now (c.split_at.ensures.front ∙ fronts ∙ sym c.split_at-in-loop-pieces.ensures.front) in
          sym (ap not equal) ∙ sym c.ne.ensures ∙ c.if-ne.true),
    )

pub loop-pieces-preserved : goal.loop-pieces-preserved
loop-pieces-preserved c =
    let (front, was, also) = c.loop-pieces.invariant in
    let left = c.left_or_next-left.result.now in
    let more = c.left_or_next-left.new.self in
    let right = c.left_or_next-right.result.now in
    let others = c.left_or_next-right.new.self in
    let n = c.shorter-count.result in
    let next = c.split_at.result.0.now in
    let now = was ∙ ap (λ xs. front ++ xs) c.left_or_next-left.ensures.whole in
    let other_now = also ∙ ap (λ xs. front ++ xs) c.left_or_next-right.ensures.whole in
    let alike = equal_bytes next c.split_at-in-loop-pieces.result.0.now (not_other _ (sym c.ne.ensures ∙ c.if-ne.false)) in (
      front ++ next,
      compared_more _ front left more next c.split_at.result.1.now n now c.split_at.ensures.front c.split_at.ensures.back,
      compared_more _ front right others next c.split_at-in-loop-pieces.result.1.now n other_now (alike ∙ c.split_at-in-loop-pieces.ensures.front) c.split_at-in-loop-pieces.ensures.back,
    )
