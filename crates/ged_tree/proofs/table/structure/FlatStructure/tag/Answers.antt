use Rattle.std.proofs.Common.{◌<◌, ◌∙◌, arith}
use Rattle.ged_tree.specs.Rows.{line_shown, IsSpelled}
use Rattle.ged_tree.specs.inner.Rows.{shown_of}
use Rattle.ged_tree.proofs.table.Tags.{tag_boundary, part_boundary, tag_is}
use Rattle.ged_tree.proofs.table.structure.FlatStructure.tag.Goals as goal

pub range-requires-clause-start_boundary : goal.range-requires-clause-start_boundary
range-requires-clause-start_boundary c =
    let s = shown_of c.args.self.now in
    let spelled : IsSpelled s = c.requires in
    let told = c.tag_length-length.ensures in
    let some : 0 < s.tag_length = omega (arith, told) in
    let kept = (spelled.1 some).0 in
    λ l. tag_boundary (line_shown s) s.text spelled.0 s.tag_start s.tag_length kept.0 kept.1

pub range-requires-clause-end_boundary : goal.range-requires-clause-end_boundary
range-requires-clause-end_boundary c =
    let s = shown_of c.args.self.now in
    let spelled : IsSpelled s = c.requires in
    let told = c.tag_length-length.ensures in
    let some : 0 < s.tag_length = omega (arith, told) in
    let kept = (spelled.1 some).0 in
    rw told (part_boundary (line_shown s) s.text spelled.0 s.tag_start s.tag_length kept.0 kept.1)

pub returns : goal.returns
returns c =
    let s = shown_of c.args.self.now in
    let spelled : IsSpelled s = c.requires in
    let told = c.tag_length-length.ensures in
    let some : 0 < s.tag_length = omega (arith, told) in
    let kept = (spelled.1 some).0 in
    (rw told at c.range.ensures.value) ∙ tag_is (line_shown s) s.text spelled.0 s.tag_start s.tag_length kept.0 kept.1
