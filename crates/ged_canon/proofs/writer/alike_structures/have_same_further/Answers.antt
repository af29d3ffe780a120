use Rattle.std.proofs.Common.{◌≡◌, ◌++◌, ◌∷◌, [], List, sym, ◌∙◌, arith, rules}
use Rattle.std.proofs.lemmas.List.{take_more}
use Rattle.ged_line.specs.Bytes.{Bytes}
use Rattle.ged_canon.proofs.writer.OwnLines.{at_is}
use Rattle.ged_canon.proofs.writer.alike_structures.have_same_further.Goals as goal

pub loop-number-preserved : goal.loop-number-preserved
loop-number-preserved g c =
    let xs : List Bytes = c.in-Some.lines in
    let ys : List Bytes = c.in-Some-further_lines.other_lines in
    let n = c.loop-number.number in
    let x = c.line.result.now in
    let y = c.line-in-loop-number.result.now in
    let same : x ≡ y = search rules in
    take_more xs n x (omega (arith, c.loop-number-test.true))
    ∙ (λ i. c.loop-number.invariant i ++ (at_is xs n x (omega (arith, c.loop-number-test.true)) c.line.ensures ∙ same ∙ sym (at_is ys n y (omega (arith, c.loop-number-test.true)) c.line-in-loop-number.ensures)) i ∷ [])
    ∙ sym (take_more ys n y (omega (arith, c.loop-number-test.true)))
