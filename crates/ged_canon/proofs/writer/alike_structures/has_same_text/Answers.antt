use Rattle.std.proofs.Common.{◌≡◌, refl, sym, ap, ◌∙◌}
use Rattle.ged_tree.specs.Trees.{further_lines}
use Rattle.ged_tree.specs.Places.{structure_at}
use Rattle.ged_tree.specs.Views.{is_pointer, payload_of}
use Rattle.ged_canon.proofs.theory.Texts.{equal_bytes}
use Rattle.ged_canon.proofs.writer.AlikeTrees.{alike_values}
use Rattle.ged_canon.proofs.writer.alike_structures.has_same_text.Goals as goal

pub returns : goal.returns
returns g c = λ new other same.
    let s = structure_at (g.F.Forest.trees c.args.forest.now) c.args.place in
    let t = structure_at (g.G.Forest.trees c.args.other_forest.now) c.args.other in
    let here = c.tag_and_payload in
    let there = c.tag_and_payload-2 in
    let tags : s.tag ≡ t.tag = sym here.ensures.tag ∙ equal_bytes here.result.0.now there.result.0.now (sym c.if-not-is_same_tag.ensures) ∙ there.ensures.tag in
    let further = further_lines s.payload in
    let payloads : s.payload ≡ t.payload =
    sym here.ensures.payload ∙ c.if-not-is_same_value.ensures.same further refl ∙ ap (payload_of there.result.1) (c.have_same_further.ensures same) ∙ there.ensures.payload in
    alike_values new other s t (tags, payloads) (ap is_pointer (sym here.ensures.payload) ∙ c.if-not-is_same_value.ensures.value further refl)
