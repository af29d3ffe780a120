use Rattle.std.proofs.Common.{◌≡◌, ◌++◌, ◌∷◌, [], decimal, ap, subst, ◌∙◌, append_assoc}
use Rattle.std.specs.Prelude.{OnOk}
use Rattle.std.specs.Option.{option_copied}
use Rattle.std.proofs.lemmas.Fmt.{decimal-digits_of}
use Rattle.ged_line.specs.Lines.{xref_part}
use Rattle.ged_canon.proofs.writer.RunsKept.{numbered_line}
use Rattle.ged_canon.proofs.writer.numbered.push_any_pointer.Goals as goal

pub returns-clause-ok : goal.returns-clause-ok
returns-clause-ok c =
    let made = c.args.out.now.items in
    let name = xref_part (option_copied c.args.xref) in
    let head = decimal c.args.level ++ 32 ∷ name in
    let sign = 32 ∷ 64 ∷ 88 ∷ [] in
    let tagged = c.in_ok-extend_from_slice.ensures.items ∙ (λ i. c.in_ok-write_head.ensures.ok i ++ c.as_bytes.ensures.value i) in
    let front = c.in_ok-extend_from_slice-2.ensures.items ∙ ap (λ xs. xs ++ sign) tagged ∙ append_assoc (made ++ head) c.args.tag.now sign ∙ append_assoc made head (c.args.tag.now ++ sign) in
    let line = numbered_line made (decimal c.args.level) name c.args.tag.now (decimal c.args.number) _ c.extend_from_slice-2.new.self.items front (decimal-digits_of c.args.number c.requires.number c.ranges.number.fits) in
    subst (λ text. OnOk c.push_closed.result (c.push_closed.new.out.items ≡ text)) line c.push_closed.ensures.ok
