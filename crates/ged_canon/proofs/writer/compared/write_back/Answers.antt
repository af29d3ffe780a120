use Rattle.std.proofs.Common.{◌≡◌, ◌+◌, ◌++◌, ◌∷◌, [], take, refl, sym, ap, ◌∙◌, arith}
use Rattle.std.proofs.lemmas.List.{take_more, take_more_set, take_all}
use Rattle.ged_canon.specs.inner.Siblings.{untagged}
use Rattle.ged_canon.proofs.writer.SortKeys.{untagged_next}
use Rattle.ged_canon.proofs.writer.compared.write_back.Goals as goal

pub loop-number-preserved : goal.loop-number-preserved
loop-number-preserved c =
    let all = c.args.tagged.now in
    let now = c.loop-number.siblings in
    let number = c.loop-number.number in
    let x = c.index-tagged-number.result in
    let next : take (number + 1) all ≡ take number all ++ x ∷ [] = take_more all number x c.loop-number-test.true ∙ ap (λ y. take number all ++ y ∷ []) (sym c.index-tagged-number.is) in
    take_more_set now number x.sibling (omega (arith, c.requires, c.loop-number.auto.siblings, c.loop-number-test.true))
    ∙ ap (λ l. l ++ x.sibling ∷ []) c.loop-number.invariant
    ∙ sym (untagged_next (take number all) (take (number + 1) all) x (untagged (take number all)) next refl)

pub returns : goal.returns
returns c =
    let all = c.args.tagged.now in
    let now = c.loop-number.siblings in
    let number = c.loop-number.number in
    sym (take_all number now (omega (arith, c.requires, c.loop-number.auto.siblings, c.loop-number-test.false)))
    ∙ c.loop-number.invariant
    ∙ ap untagged (take_all number all c.loop-number-test.false)
