use Rattle.std.proofs.Common.{◌≡◌, ◌++◌, ◌∷◌, [], Some, OnOk, option_map, sym, ap, ◌∙◌, subst}
use Rattle.std.specs.Option.{option_copied}
use Rattle.ged_line.specs.Lines.{is_line, line_parts}
use Rattle.ged_line.specs.Spelling.{spelling}
use Rattle.ged_tree.specs.DocumentLines.{line_value}
use Rattle.ged_schema.specs.Rows.{as_row}
use Rattle.ged_canon.specs.inner.Working.{brief_line}
use Rattle.ged_canon.specs.inner.Written.{written}
use Rattle.ged_canon.proofs.writer.OwnLines.{line_no_row, line_unshortened}
use Rattle.ged_canon.proofs.writer.plan.Plan.write_text.Goals as goal

pub push_parts-requires : goal.push_parts-requires
push_parts-requires c =
    let same : brief_line c.args.self.now.edition (option_map as_row (option_copied c.args.rule)) c.args.line.now ≡ c.args.line.now =
    ap (λ r. brief_line c.args.self.now.edition (option_map as_row (option_copied r)) c.args.line.now) c.in_default.is ∙ line_no_row c.args.self.now.edition c.args.line.now in
    ap (λ v. is_line (line_parts c.args.level (option_copied c.args.xref) c.args.tag.now v)) (c.text_value.ensures ∙ ap line_value (sym same)) ∙ c.requires

pub returns-in_default : goal.returns-in_default
returns-in_default c =
    let same : brief_line c.args.self.now.edition (option_map as_row (option_copied c.args.rule)) c.args.line.now ≡ c.args.line.now =
    ap (λ r. brief_line c.args.self.now.edition (option_map as_row (option_copied r)) c.args.line.now) c.in_default.is ∙ line_no_row c.args.self.now.edition c.args.line.now in
    subst (λ v. OnOk c.push_parts.result (written c.args.self.now.file.now c.push_parts.new.self ≡ written c.args.self.now.file.now c.args.answer.now ++ (spelling (line_parts c.args.level (option_copied c.args.xref) c.args.tag.now v) ++ 10 ∷ [])))
    (c.text_value.ensures ∙ ap line_value (sym same)) c.push_parts.ensures

pub push_parts-requires-then-not-may_be_shortened : goal.push_parts-requires-then-not-may_be_shortened
push_parts-requires-then-not-may_be_shortened c =
    let same : brief_line c.args.self.now.edition (option_map as_row (option_copied c.args.rule)) c.args.line.now ≡ c.args.line.now =
    ap (λ r. brief_line c.args.self.now.edition (option_map as_row (option_copied r)) c.args.line.now) c.in-Some.is ∙ line_unshortened c.args.self.now.edition (Some (as_row c.in-Some.rule.now)) c.args.line.now (sym c.may_be_shortened.ensures ∙ c.if-not-may_be_shortened.true) in
    ap (λ v. is_line (line_parts c.args.level (option_copied c.args.xref) c.args.tag.now v)) (c.text_value-then-not-may_be_shortened.ensures ∙ ap line_value (sym same)) ∙ c.requires

pub returns-then-not-may_be_shortened : goal.returns-then-not-may_be_shortened
returns-then-not-may_be_shortened c =
    let same : brief_line c.args.self.now.edition (option_map as_row (option_copied c.args.rule)) c.args.line.now ≡ c.args.line.now =
    ap (λ r. brief_line c.args.self.now.edition (option_map as_row (option_copied r)) c.args.line.now) c.in-Some.is ∙ line_unshortened c.args.self.now.edition (Some (as_row c.in-Some.rule.now)) c.args.line.now (sym c.may_be_shortened.ensures ∙ c.if-not-may_be_shortened.true) in
    subst (λ v. OnOk c.push_parts-then-not-may_be_shortened.result (written c.args.self.now.file.now c.push_parts-then-not-may_be_shortened.new.self ≡ written c.args.self.now.file.now c.args.answer.now ++ (spelling (line_parts c.args.level (option_copied c.args.xref) c.args.tag.now v) ++ 10 ∷ [])))
    (c.text_value-then-not-may_be_shortened.ensures ∙ ap line_value (sym same)) c.push_parts-then-not-may_be_shortened.ensures
