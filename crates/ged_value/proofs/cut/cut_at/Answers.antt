use Rattle.std.proofs.Common.{◌≡◌, ◌-◌, take, sym, ap, ◌∙◌, arith, add-one}
use Rattle.std.proofs.lemmas.Str.{IsCharBoundary-after_ascii}
use Rattle.ged_value.proofs.CutLaws.{cut_place, cut_nowhere}
use Rattle.ged_value.proofs.cut.cut_at.Goals as goal

pub range_from-requires : goal.range_from-requires
range_from-requires c =
    let found = rw c.as_bytes.ensures.value at c.in-Some.ensures in
    λ l. IsCharBoundary-after_ascii c.args.text.now c.in-Some.place c.utf8.text found.0 (omega (arith, found.1))

pub returns-in-Some : goal.returns-in-Some
returns-in-Some c =
    let found = rw c.as_bytes.ensures.value at c.in-Some.ensures in
    let all : c.in-Some.place - 0 ≡ c.in-Some.place = omega arith in
    let front : c.range.result.now ≡ take c.in-Some.place c.args.text.now = c.range.ensures.value ∙ ap (λ n. take n c.args.text.now) all in
    rw (front, c.range_from.ensures.value, add-one) (sym (cut_place c.args.character c.args.text.now c.in-Some.place found.0 found.1 found.2))

pub returns-in-None : goal.returns-in-None
returns-in-None c =
    let none = rw c.as_bytes.ensures.value at c.in-None.ensures in
    sym (cut_nowhere c.args.character c.args.text.now none)
