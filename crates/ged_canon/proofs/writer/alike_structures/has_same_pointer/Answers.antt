use Rattle.std.proofs.Common.{◌≡◌, ◌++◌, sym, ap, ◌∙◌, eqb-true, arith}
use Rattle.ged_line.specs.Lines.{Pointer as PointerValue}
use Rattle.ged_line.specs.Spelling.{value_part}
use Rattle.ged_tree.specs.declared.payload.Payload.TheVariants.{Pointer}
use Rattle.ged_tree.specs.DocumentLines.{first_value}
use Rattle.ged_tree.specs.Places.{structure_at}
use Rattle.ged_canon.specs.inner.Working.{number_among}
use Rattle.ged_canon.proofs.theory.Texts.{equal_bytes}
use Rattle.ged_canon.proofs.writer.AlikeTrees.{pointed, alike_pointers}
use Rattle.ged_canon.proofs.writer.alike_structures.has_same_pointer.Goals as goal

pub returns-then-number-gt0 : goal.returns-then-number-gt0
returns-then-number-gt0 g c = λ names others h k same.
    let d = g.F.Forest.trees c.args.first.now.forest.now in
    let e = g.G.Forest.trees c.args.second.now.forest.now in
    let s = structure_at d c.args.place in
    let t = structure_at e c.args.other in
    let line = c.in-Some.line in
    let other_line = c.in-Some-own_line.other_line in
    let p = pointed s.payload (sym c.in-Some.ensures.points ∙ c.if-not-line.false) in
    let q = pointed t.payload (sym c.in-Some-own_line.ensures.points ∙ c.if-not-other_line.false) in
    let shown : line.rest.now ≡ line.tag.now ++ value_part (PointerValue p.0) =
    c.in-Some.ensures.rest ∙ (λ i. sym c.in-Some.ensures.tag i ++ value_part (first_value (p.1 i))) in
    let other_shown : other_line.rest.now ≡ other_line.tag.now ++ value_part (PointerValue q.0) =
    c.in-Some-own_line.ensures.rest ∙ (λ i. sym c.in-Some-own_line.ensures.tag i ++ value_part (first_value (q.1 i))) in
    let name = c.name_behind-name.result.now in
    let other = c.name_behind-name-2.result.now in
    let names_it : s.payload ≡ Pointer name = p.1 ∙ ap Pointer (sym (c.name_behind-name.ensures p.0 shown)) in
    let names_other : t.payload ≡ Pointer other = q.1 ∙ ap Pointer (sym (c.name_behind-name-2.ensures q.0 other_shown)) in
    let tags = sym c.in-Some.ensures.tag ∙ equal_bytes line.tag.now other_line.tag.now (sym c.if-not-is_same_tag.ensures) ∙ c.in-Some-own_line.ensures.tag in
    let number = c.new_number_at-number.result in
    let first : number ≡ number_among 1 names name = c.new_number_at-number.ensures d names h names_it in
    let second : c.new_number_at-other_number.result ≡ number_among 1 others other = c.new_number_at-other_number.ensures e others k names_other in
    alike_pointers names others s t name other number tags names_it names_other (omega (arith, c.if-number-gt0.true)) first (eqb-true number c.new_number_at-other_number.result same ∙ second)
