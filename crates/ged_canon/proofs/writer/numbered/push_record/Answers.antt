use Rattle.std.proofs.Common.{◌≡◌, ◌++◌, ◌∷◌, [], length, get_or, decimal, refl, sym, ap, ◌∙◌, append_assoc, arith}
use Rattle.std.proofs.lemmas.Fmt.{decimal-digits_of}
use Rattle.std.proofs.lemmas.Slice.Eq.{text_from_reads}
use Rattle.ged_canon.proofs.writer.RunsKept.{record_line}
use Rattle.ged_canon.proofs.writer.numbered.push_record.Goals as goal

pub returns-in-len4-clause-ok : goal.returns-in-len4-clause-ok
returns-in-len4-clause-ok c =
    let seen = c.as_bytes.result.now in
    let letters = get_or seen 0 0 ∷ get_or seen 1 0 ∷ get_or seen 2 0 ∷ get_or seen 3 0 ∷ [] in
    let width : length seen ≡ 4 = omega (arith, c.in-len4.len_at_least, c.in-len4.len_below) in
    let rest_is : letters ≡ c.args.rest.now = sym (text_from_reads seen letters width (refl, (refl, (refl, (refl, tt))))) ∙ c.as_bytes.ensures.value in
    let front = c.in_ok-push_closed.ensures.ok ∙ ap (λ xs. xs ++ (decimal c.args.number ++ 64 ∷ 32 ∷ [])) c.in_ok-extend_from_slice.ensures.items in
    c.in_ok-extend_from_slice-2.ensures.items
    ∙ ap (λ xs. c.push_closed.new.out.items ++ (xs ++ 10 ∷ [])) rest_is
    ∙ record_line c.args.out.now.items (decimal c.args.number) _ c.args.rest.now c.push_closed.new.out.items front (decimal-digits_of c.args.number c.requires c.ranges.number.fits)

pub returns-clause-ok : goal.returns-clause-ok
returns-clause-ok c =
    let closed = c.push_closed.new.out.items in
    let front = c.in_ok-push_closed.ensures.ok ∙ ap (λ xs. xs ++ (decimal c.args.number ++ 64 ∷ 32 ∷ [])) c.in_ok-extend_from_slice.ensures.items in
    c.in_ok-push.ensures.items
    ∙ ap (λ xs. xs ++ 10 ∷ []) (c.in_ok-extend_from_slice-3.ensures.items ∙ ap (λ xs. closed ++ xs) c.as_bytes-2.ensures.value)
    ∙ append_assoc closed c.args.rest.now (10 ∷ [])
    ∙ record_line c.args.out.now.items (decimal c.args.number) _ c.args.rest.now closed front (decimal-digits_of c.args.number c.requires c.ranges.number.fits)
