use Rattle.std.proofs.Common.{◌∙◌, sym, subst}
use Rattle.ged_line.specs.Bytes.{Bytes}
use Rattle.ged_line.specs.inner.LineTexts.{IsValuePart}
use Rattle.ged_line.proofs.CallerLemmas.{in_parts}
use Rattle.ged_tree.proofs.theory.LineParts.{line_is}
use Rattle.ged_tree.specs.Rows.{line_shown, IsSpelled}
use Rattle.ged_tree.specs.inner.Rows.{shown_of}
use Rattle.ged_tree.proofs.table.Searches.{word_boundary, behind_word}
use Rattle.ged_tree.proofs.table.structure.FlatStructure.payload_of_line.Goals as goal

pub range_from-requires : goal.range_from-requires
range_from-requires c =
    let s = shown_of c.args.self in
    let spelled : IsSpelled s = c.requires in
    rw (c.before_byte-tag.ensures, c.from_tag-rest.ensures) (λ l. word_boundary (line_shown s) s.text spelled.0)

pub payload_behind_tag-requires : goal.payload_behind_tag-requires
payload_behind_tag-requires c =
    let s = shown_of c.args.self in
    let spelled : IsSpelled s = c.requires in
    let line = line_shown s in
    let behind = rw (c.before_byte-tag.ensures, c.from_tag-rest.ensures) at c.range_from.ensures.value in
    let cut = behind ∙ behind_word line s.text spelled.0 in
    let part = subst (λ (bs : Bytes). IsValuePart line.value bs) (sym cut) (in_parts line s.text spelled.0).value in
    (line.value, (line_is line spelled.0.is_line).value, part)
