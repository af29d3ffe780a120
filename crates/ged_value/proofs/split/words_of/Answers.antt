use Rattle.std.proofs.Common.{◌≡◌, ◌+◌, ◌++◌, take, length, ap, ◌∙◌, arith, length-append}
use Rattle.std.specs.Prelude.{◌==◌}
use Rattle.std.proofs.lemmas.List.{length-take, length-map}
use Rattle.std.proofs.lemmas.List.Splits.{length-slice_split}
use Rattle.ged_value.specs.Words.{words_of}
use Rattle.ged_value.specs.Left.{words_left}
use Rattle.ged_value.specs.inner.Texts.{texts}
use Rattle.ged_value.proofs.split.words_of.Goals as goal

-- twelve words, and a text behind them, have more than twelve
pub returns-then-count-eq-MOST : goal.returns-then-count-eq-MOST
returns-then-count-eq-MOST c =
    let before = c.loop-rest.invariant in
    let front = texts (take c.loop-rest.count c.loop-rest.words) in
    let total : length (words_of c.args.text.now) ≡ length front + length (words_of c.in-Some.left.now) =
    ap length (before.so_far ∙ ap (λ rest. front ++ words_left rest) c.in-Some.is) ∙ length-append front (words_of c.in-Some.left.now) in
    let twelve : length front ≡ 12 = simp length-map (omega (arith, length-take c.loop-rest.count c.loop-rest.words)) in
    omega (arith, total, twelve, length-slice_split (λ b. b == 32) c.in-Some.left.now)
