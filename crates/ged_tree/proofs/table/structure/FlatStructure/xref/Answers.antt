use Rattle.std.proofs.Common.{ℕ, ◌≢◌, ◌+◌, ◌<◌, ◌∙◌, Some, length, decimal, ap, sym, arith}
use Rattle.ged_tree.specs.Rows.{line_shown, IsSpelled}
use Rattle.ged_tree.specs.inner.Rows.{shown_of}
use Rattle.ged_tree.proofs.table.Tags.{named, name_boundary, name_end_boundary, name_is}
use Rattle.ged_tree.proofs.table.structure.FlatStructure.xref.Goals as goal

pub range-requires-clause-start_boundary : goal.range-requires-clause-start_boundary
range-requires-clause-start_boundary c =
    let s = shown_of c.args.self.now in
    let spelled : IsSpelled s = c.requires in
    let some : 0 < s.tag_length = omega (arith, c.tag_length.ensures) in
    let kept = (spelled.1 some).0 in
    let first = c.digits_of_level-first.ensures.digits ∙ ap (λ (l : ℕ). length (decimal l)) c.level.ensures in
    let other : s.tag_start ≢ length (decimal s.level) + 1 = λ z. c.if-start-first.false (omega (arith, z, first)) in
    rw first (λ l. name_boundary (line_shown s) s.text spelled.0 s.tag_start s.tag_length kept.0 kept.1 other)

pub range-requires-clause-end_boundary : goal.range-requires-clause-end_boundary
range-requires-clause-end_boundary c =
    let s = shown_of c.args.self.now in
    let spelled : IsSpelled s = c.requires in
    let some : 0 < s.tag_length = omega (arith, c.tag_length.ensures) in
    let kept = (spelled.1 some).0 in
    let first = c.digits_of_level-first.ensures.digits ∙ ap (λ (l : ℕ). length (decimal l)) c.level.ensures in
    let other : s.tag_start ≢ length (decimal s.level) + 1 = λ z. c.if-start-first.false (omega (arith, z, first)) in
    name_end_boundary (line_shown s) s.text spelled.0 s.tag_start s.tag_length kept.0 kept.1 other

pub returns : goal.returns
returns c =
    let s = shown_of c.args.self.now in
    let spelled : IsSpelled s = c.requires in
    let some : 0 < s.tag_length = omega (arith, c.tag_length.ensures) in
    let kept = (spelled.1 some).0 in
    let first = c.digits_of_level-first.ensures.digits ∙ ap (λ (l : ℕ). length (decimal l)) c.level.ensures in
    let other : s.tag_start ≢ length (decimal s.level) + 1 = λ z. c.if-start-first.false (omega (arith, z, first)) in
    let cut = rw first at c.range.ensures.value in
    ap Some (cut ∙ name_is (line_shown s) s.text spelled.0 s.tag_start s.tag_length kept.0 kept.1 other)
    ∙ sym (named (line_shown s) s.text spelled.0 s.tag_start s.tag_length kept.0 kept.1 other).is
