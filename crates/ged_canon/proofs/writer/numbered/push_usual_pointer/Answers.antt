use Rattle.std.proofs.Common.{◌≡◌, ◌<◌, ◌++◌, ◌∷◌, [], length, get_or, decimal, refl, sym, subst, ◌∙◌, arith}
use Rattle.std.specs.Prelude.{OnOk}
use Rattle.std.proofs.lemmas.Fmt.{decimal_digit, decimal-digits_of}
use Rattle.std.proofs.lemmas.Slice.Eq.{text_from_reads}
use Rattle.ged_canon.proofs.writer.RunsKept.{numbered_line}
use Rattle.ged_canon.proofs.writer.numbered.push_usual_pointer.Goals as goal

pub returns-clause-ok : goal.returns-clause-ok
returns-clause-ok c =
    let made = c.args.out.now.items in
    let seen = c.as_bytes.result.now in
    let letters = get_or seen 0 0 ∷ get_or seen 1 0 ∷ get_or seen 2 0 ∷ get_or seen 3 0 ∷ [] in
    let width : length seen ≡ 4 = omega (arith, c.in-len4.len_at_least, c.in-len4.len_below) in
    let tag_is : letters ≡ c.args.tag.now = sym (text_from_reads seen letters width (refl, (refl, (refl, (refl, tt))))) ∙ c.as_bytes.ensures.value in
    let digit : c.args.level < 10 = omega (arith, c.if-level-gt9.false) in
    let front = c.in_ok-extend_from_slice.ensures.items ∙ (λ i. made ++ ((sym (decimal_digit c.args.level digit) i ++ 32 ∷ []) ++ (tag_is i ++ 32 ∷ 64 ∷ 88 ∷ []))) in
    let line = numbered_line made (decimal c.args.level) [] c.args.tag.now (decimal c.args.number) _ c.extend_from_slice.new.self.items front (decimal-digits_of c.args.number c.requires.number c.ranges.number.fits) in
    subst (λ text. OnOk c.push_closed.result (c.push_closed.new.out.items ≡ text)) line c.push_closed.ensures.ok
