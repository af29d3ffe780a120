use Rattle.std.proofs.Common.{◌<◌, ◌∙◌, ap, sym, subst, arith}
use Rattle.ged_line.specs.Bytes.{Bytes}
use Rattle.ged_line.specs.inner.LineTexts.{IsValuePart}
use Rattle.ged_line.proofs.CallerLemmas.{in_parts}
use Rattle.ged_tree.proofs.theory.LineParts.{line_is}
use Rattle.ged_tree.specs.Rows.{line_shown, IsSpelled}
use Rattle.ged_tree.specs.inner.Rows.{shown_of}
use Rattle.ged_tree.specs.Spelled.{shown_value}
use Rattle.ged_tree.proofs.table.Tags.{part_boundary, part_is, part_shown}
use Rattle.ged_tree.proofs.table.structure.FlatStructure.payload.Goals as goal

pub range_from-requires : goal.range_from-requires
range_from-requires c =
    let s = shown_of c.args.self.now in
    let spelled : IsSpelled s = c.requires in
    let told = c.tag_length-length.ensures in
    let some : 0 < s.tag_length = omega (arith, told) in
    let kept = (spelled.1 some).0 in
    rw told (λ l. part_boundary (line_shown s) s.text spelled.0 s.tag_start s.tag_length kept.0 kept.1)

pub payload_behind_tag-requires : goal.payload_behind_tag-requires
payload_behind_tag-requires c =
    let s = shown_of c.args.self.now in
    let spelled : IsSpelled s = c.requires in
    let told = c.tag_length-length.ensures in
    let some : 0 < s.tag_length = omega (arith, told) in
    let kept = (spelled.1 some).0 in
    let cut = (rw told at c.range_from.ensures.value) ∙ part_is (line_shown s) s.text spelled.0 s.tag_start s.tag_length kept.0 kept.1 in
    ((line_shown s).value, (line_is (line_shown s) spelled.0.is_line).value, subst (λ (bs : Bytes). IsValuePart (line_shown s).value bs) (sym cut) (in_parts (line_shown s) s.text spelled.0).value)

pub returns : goal.returns
returns c =
    let s = shown_of c.args.self.now in
    let spelled : IsSpelled s = c.requires in
    let told = c.tag_length-length.ensures in
    let some : 0 < s.tag_length = omega (arith, told) in
    let kept = (spelled.1 some).0 in
    let cut = (rw told at c.range_from.ensures.value) ∙ part_is (line_shown s) s.text spelled.0 s.tag_start s.tag_length kept.0 kept.1 in
    c.payload_behind_tag.ensures ∙ ap shown_value cut ∙ part_shown (line_shown s) s.text spelled.0 s.tag_start s.tag_length kept.0 kept.1
