use Rattle.std.proofs.Common.{◌≡◌, ◌∷◌, [], length, get_or, refl, sym, ◌∙◌, arith}
use Rattle.std.proofs.lemmas.Slice.Eq.{text_from_reads}
use Rattle.ged_accept.proofs.Showing.{digit_front}
use Rattle.ged_accept.proofs.show.put_short_line.Goals as goal

pub put_line-requires : goal.put_line-requires
put_line-requires c =
    let seen = c.as_bytes.result.now in
    let letters = get_or seen 0 0 ∷ get_or seen 1 0 ∷ get_or seen 2 0 ∷ [] in
    let width : length seen ≡ 3 = omega (arith, c.in-len3.len_at_least, c.in-len3.len_below) in
    let tag_is : letters ≡ c.args.tag.now = sym (text_from_reads seen letters width (refl, (refl, (refl, tt)))) ∙ c.as_bytes.ensures.value in
    (omega arith, digit_front c.args.level letters c.args.tag.now (omega (arith, c.if-level-gt9.false)) tag_is)
