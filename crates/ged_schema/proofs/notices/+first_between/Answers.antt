use Rattle.std.proofs.Common.{arith, sym, ap, ◌∙◌, ◌≡◌, ◌+◌, Some, Option, None, option_map, Bor}
use Rattle.ged_line.specs.Names.{is_tag, is_standard_tag}
use Rattle.ged_tree.specs.Places.{structure_at}
use Rattle.ged_tree.specs.Runs.{trees_between}
use Rattle.std.specs.Option.{option_copied}
use Rattle.ged_schema.specs.declared.rule.Rule.{Rule}
use Rattle.ged_schema.specs.Rows.{as_row}
use Rattle.ged_schema.specs.Tables.{row}
use Rattle.ged_schema.specs.Unlisted.{UnlistedFrom}
use Rattle.ged_schema.proofs.Numbers.{row_among}
use Rattle.ged_schema.proofs.Runs.{tested, refuted}
use Rattle.ged_schema.proofs.Listing.{document_tag}
use Rattle.ged_schema.proofs.FirstUnlisted.{same_row, same_none, lowest_here, lowest_below, lowest_same, both_same}
use Rattle.ged_schema.proofs.notices.+first_between.Goals as goal

pub gives_notice-requires : goal.gives_notice-requires
gives_notice-requires g t c = ap is_tag c.tag-tag.ensures ∙ document_tag (g.F.Forest.trees c.args.forest.now) c.loop-after.place c.requires.document c.in-Some.ensures.within

pub returns-in-Some-first_between : goal.returns-in-Some-first_between
returns-in-Some-first_between g t c =
    let d = g.F.Forest.trees c.args.forest.now in
    let place = c.loop-after.place in
    let after = c.in-Some.after in
    let rule = c.in-Some-rule_among.rule.now in
    let s = structure_at d place in
    let here = trees_between d place c.args.end in
    let below = trees_between d (place + 1) after in
    let next = trees_between d after c.args.end in
    let some : row c.args.context s.tag ≡ Some (as_row rule) = ap (row c.args.context) (sym c.tag-tag.ensures) ∙ row_among _ _ _ _ c.rows-rules.ensures.rows c.in-Some-rule_among.ensures in
    lowest_same (UnlistedFrom c.args.context c.args.start (trees_between d c.args.start c.args.end)) (UnlistedFrom c.args.context place here) c.loop-after.invariant.same c.in-Some-first_between.found
    (lowest_below c.args.context here s below next c.in-Some.ensures.first place after c.in-Some.ensures.below.fills (as_row rule) some c.in-Some-first_between.found c.in-Some-first_between.ensures)

pub returns-then-gives_notice : goal.returns-then-gives_notice
returns-then-gives_notice g t c =
    let d = g.F.Forest.trees c.args.forest.now in
    let place = c.loop-after.place in
    let after = c.in-Some.after in
    let s = structure_at d place in
    let here = trees_between d place c.args.end in
    let below = trees_between d (place + 1) after in
    let next = trees_between d after c.args.end in
    let nothing : row c.args.context s.tag ≡ None = ap (row c.args.context) (sym c.tag-tag.ensures) ∙ row_among _ _ _ _ c.rows-rules.ensures.rows c.rule_among.ensures ∙ ap (λ (o : Option (Bor Rule)). option_map as_row (option_copied o)) c.in_default-rule_among.is in
    let notice = tested c.gives_notice.result c.gives_notice.ensures c.if-gives_notice.true in
    lowest_same (UnlistedFrom c.args.context c.args.start (trees_between d c.args.start c.args.end)) (UnlistedFrom c.args.context place here) c.loop-after.invariant.same place
    (lowest_here c.args.context here s below next c.in-Some.ensures.first place after c.in-Some.ensures.below.fills nothing (ap is_standard_tag (sym c.tag-tag.ensures) ∙ notice.0) notice.1)

pub loop-after-preserved-in_default-first_between : goal.loop-after-preserved-in_default-first_between
loop-after-preserved-in_default-first_between g t c =
    let d = g.F.Forest.trees c.args.forest.now in
    let place = c.loop-after.place in
    let after = c.in-Some.after in
    let rule = c.in-Some-rule_among.rule.now in
    let s = structure_at d place in
    let here = trees_between d place c.args.end in
    let below = trees_between d (place + 1) after in
    let next = trees_between d after c.args.end in
    let some : row c.args.context s.tag ≡ Some (as_row rule) = ap (row c.args.context) (sym c.tag-tag.ensures) ∙ row_among _ _ _ _ c.rows-rules.ensures.rows c.in-Some-rule_among.ensures in
    record {
      run = c.in-Some.ensures.rest;
      ahead = omega (arith, c.loop-after.invariant.ahead, c.in-Some.ensures.forth);
      same = λ p. both_same (c.loop-after.invariant.same p) (same_row c.args.context here s below next c.in-Some.ensures.first place after c.in-Some.ensures.below.fills (as_row rule) some c.in_default-first_between.ensures p);
    }

pub loop-after-preserved : goal.loop-after-preserved
loop-after-preserved g t c =
    let d = g.F.Forest.trees c.args.forest.now in
    let place = c.loop-after.place in
    let after = c.in-Some.after in
    let s = structure_at d place in
    let here = trees_between d place c.args.end in
    let below = trees_between d (place + 1) after in
    let next = trees_between d after c.args.end in
    let nothing : row c.args.context s.tag ≡ None = ap (row c.args.context) (sym c.tag-tag.ensures) ∙ row_among _ _ _ _ c.rows-rules.ensures.rows c.rule_among.ensures ∙ ap (λ (o : Option (Bor Rule)). option_map as_row (option_copied o)) c.in_default-rule_among.is in
    record {
      run = c.in-Some.ensures.rest;
      ahead = omega (arith, c.loop-after.invariant.ahead, c.in-Some.ensures.forth);
      same = λ p. both_same (c.loop-after.invariant.same p) (same_none c.args.context here s below next c.in-Some.ensures.first place after c.in-Some.ensures.below.fills nothing
          (λ notice. refuted c.gives_notice.result c.gives_notice.ensures c.if-gives_notice.false (ap is_standard_tag c.tag-tag.ensures ∙ notice.0, notice.1)) p);
    }
