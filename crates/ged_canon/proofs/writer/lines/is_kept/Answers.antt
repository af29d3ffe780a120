use Rattle.std.proofs.Common.{Some, option_map, sym, ap, ◌∙◌}
use Rattle.std.specs.Option.{option_copied}
use Rattle.ged_tree.specs.Places.{structure_at}
use Rattle.ged_schema.specs.Rows.{as_row}
use Rattle.ged_canon.specs.inner.Working.{brief}
use Rattle.ged_canon.proofs.theory.Brief.{brief_payload_same}
use Rattle.ged_canon.proofs.writer.OwnLines.{no_row_kept, unshortened}
use Rattle.ged_canon.proofs.writer.lines.is_kept.Goals as goal

pub returns-in_default : goal.returns-in_default
returns-in_default g c = λ _.
    let p = (structure_at (g.F.Forest.trees c.args.forest.now) c.args.place).payload in
    ap (λ r. brief c.args.edition (option_map as_row (option_copied r)) p) c.in_default.is ∙ no_row_kept c.args.edition p

pub returns-then-not-may_be_shortened : goal.returns-then-not-may_be_shortened
returns-then-not-may_be_shortened g c = λ _.
    let p = (structure_at (g.F.Forest.trees c.args.forest.now) c.args.place).payload in
    ap (λ r. brief c.args.edition (option_map as_row (option_copied r)) p) c.in-Some.is
    ∙ unshortened c.args.edition (Some (as_row c.in-Some.rule.now)) p (sym c.may_be_shortened.ensures ∙ c.if-not-may_be_shortened.true)

pub returns : goal.returns
returns g c = λ told.
    let p = (structure_at (g.F.Forest.trees c.args.forest.now) c.args.place).payload in
    ap (λ r. brief c.args.edition (option_map as_row (option_copied r)) p) c.in-Some.is
    ∙ brief_payload_same c.args.edition (Some (as_row c.in-Some.rule.now)) p (c.is_found_brief.ensures.0 told)
