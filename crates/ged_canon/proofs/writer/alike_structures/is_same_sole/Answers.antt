use Rattle.std.proofs.Common.{◌≡◌, List, [], ◌∷◌, length, decimal, slice_range, refl, sym, ap, ◌∙◌, arith}
use Rattle.ged_line.specs.Bytes.{Bytes}
use Rattle.ged_tree.specs.Trees.{further_lines}
use Rattle.ged_tree.specs.BareLines.{lines_text}
use Rattle.ged_tree.specs.DocumentLines.{rest_of_line}
use Rattle.ged_tree.specs.Places.{structure_at}
use Rattle.ged_canon.proofs.writer.AlikeTrees.{structure_stands, same_structure, same_rest, alike_values}
use Rattle.ged_canon.proofs.writer.alike_structures.is_same_sole.Goals as goal

nothing : (lines : List Bytes) → length lines ≡ 0 → lines ≡ []
nothing [] e = refl
nothing (line ∷ lines) e = absurd (omega (arith, e))

pub returns : goal.returns
returns g c = λ new other same.
    let d = g.F.Forest.trees c.args.first.now.forest.now in
    let e = g.G.Forest.trees c.args.second.now.forest.now in
    let s = structure_at d c.args.place in
    let t = structure_at e c.args.other in
    let here = structure_stands d c.args.place c.requires.document c.requires.within in
    let there = structure_stands e c.args.other c.requires.other_document c.requires.other_within in
    let bytes = c.args.first.now.lines in
    let others = c.args.second.now.lines in
    let line : slice_range (lines_text bytes) c.in-Some.start c.in-Some.end ≡ slice_range (lines_text others) c.in-Some-sole_at.other_start c.in-Some-sole_at.other_end =
    ap (λ (text : Bytes). slice_range text c.in-Some.start c.in-Some.end) (sym c.text.ensures)
    ∙ c.is_same_text.ensures same
    ∙ ap (λ (text : Bytes). slice_range text c.in-Some-sole_at.other_start c.in-Some-sole_at.other_end) c.text-2.ensures in
    let rest : rest_of_line s ≡ rest_of_line t =
    same_rest (decimal c.args.level) (rest_of_line s) (rest_of_line t) (slice_range (lines_text bytes) c.in-Some.start c.in-Some.end)
    (c.in-Some.ensures.line d c.args.first.now.told) (line ∙ c.in-Some-sole_at.ensures.line e c.args.second.now.told) in
    let further : further_lines s.payload ≡ further_lines t.payload =
    nothing (further_lines s.payload) (c.in-Some.ensures.alone d c.args.first.now.told) ∙ sym (nothing (further_lines t.payload) (c.in-Some-sole_at.ensures.alone e c.args.second.now.told)) in
    alike_values new other s t (same_structure s t here.0 there.0 here.1 there.1 rest further) (c.in-Some.ensures.value d c.args.first.now.told)
