use Rattle.std.proofs.Common.{◌∙◌, sym, Some}
use Rattle.std.specs.List.{list_all}
use Rattle.ged_value.specs.Words.{words_of}
use Rattle.ged_schema.specs.Rows.{as_row}
use Rattle.ged_canon.specs.inner.Working.{is_brief_word}
use Rattle.ged_canon.proofs.writer.BriefTests.{brief_from, from_brief}
use Rattle.ged_canon.proofs.writer.brief.is_brief_line.Goals as goal

pub returns : goal.returns
returns c =
    let r = Some (as_row c.args.rule.now) in
    let told = c.are_brief_words.ensures ∙ (λ i. list_all (is_brief_word (c.left_out_at.ensures.calendar i) (c.left_out_at.ensures.zeros i)) (words_of c.args.line.now)) in
    ((λ brief. brief_from c.args.edition r c.args.line.now (sym told ∙ brief)), (λ brief. told ∙ from_brief c.args.edition r c.args.line.now brief))
