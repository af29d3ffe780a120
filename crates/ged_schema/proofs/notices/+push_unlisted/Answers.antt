use Rattle.std.proofs.Common.{arith, sym, ap, ◌∙◌, ◌≡◌, ◌+◌, ◌++◌, [], ◌∷◌, Some, Option, None, option_map, Bor}
use Rattle.std.proofs.lemmas.List.{append-nil}
use Rattle.ged_line.specs.Names.{is_tag, is_standard_tag}
use Rattle.ged_tree.specs.Places.{structure_at}
use Rattle.ged_tree.specs.Runs.{trees_between}
use Rattle.std.specs.Option.{option_copied}
use Rattle.ged_schema.specs.declared.rule.Rule.{Rule}
use Rattle.ged_schema.specs.Rows.{as_row}
use Rattle.ged_schema.specs.Tables.{row}
use Rattle.ged_schema.specs.Unlisted.{unlisted_notice}
use Rattle.ged_schema.specs.inner.Listings.{ListsUnlisted}
use Rattle.ged_schema.proofs.Numbers.{row_among}
use Rattle.ged_schema.proofs.Runs.{tested, refuted}
use Rattle.ged_schema.proofs.Listing.{unlisted_row, unlisted_here, unlisted_none, unlisted_end, told_more, told_one, notice_same, document_tag}
use Rattle.ged_schema.proofs.Marking.{nothing_stands}
use Rattle.ged_schema.proofs.notices.+push_unlisted.Goals as goal

pub gives_notice-requires : goal.gives_notice-requires
gives_notice-requires g t c = ap is_tag c.tag-tag.ensures ∙ document_tag (g.F.Forest.trees c.args.forest.now) c.loop-after.place c.requires.document c.in-Some.ensures.within

pub loop-after-preserved-in_ok-push_unlisted : goal.loop-after-preserved-in_ok-push_unlisted
loop-after-preserved-in_ok-push_unlisted g t c =
    let d = g.F.Forest.trees c.args.forest.now in
    let place = c.loop-after.place in
    let after = c.in-Some.after in
    let rule = c.in-Some-rule_among.rule.now in
    let s = structure_at d place in
    let here = trees_between d place c.args.end in
    let below = trees_between d (place + 1) after in
    let next = trees_between d after c.args.end in
    let some : row c.args.context s.tag ≡ Some (as_row rule) = ap (row c.args.context) (sym c.tag-tag.ensures) ∙ row_among _ _ _ _ c.rows-rules.ensures.rows c.in-Some-rule_among.ensures in
    let (under, listed, items) = c.in_ok-push_unlisted.ensures in
    record {
      run = c.in-Some.ensures.rest;
      ahead = omega (arith, c.loop-after.invariant.ahead, c.in-Some.ensures.forth);
      told = λ left rest.
          let (places, all, same) = c.loop-after.invariant.told (under ++ left) (unlisted_row c.args.context here s below next c.in-Some.ensures.first place after c.in-Some.ensures.below.fills (as_row rule) under left some listed rest) in
          (places, all, told_more (unlisted_notice d) c.loop-after.notices.items _ under left _ items same);
    }

pub loop-after-preserved-else-place-after : goal.loop-after-preserved-else-place-after
loop-after-preserved-else-place-after g t c =
    let d = g.F.Forest.trees c.args.forest.now in
    let place = c.loop-after.place in
    let after = c.in-Some.after in
    let rule = c.in-Some-rule_among.rule.now in
    let s = structure_at d place in
    let here = trees_between d place c.args.end in
    let below = trees_between d (place + 1) after in
    let next = trees_between d after c.args.end in
    let some : row c.args.context s.tag ≡ Some (as_row rule) = ap (row c.args.context) (sym c.tag-tag.ensures) ∙ row_among _ _ _ _ c.rows-rules.ensures.rows c.in-Some-rule_among.ensures in
    let listed : ListsUnlisted rule.below (place + 1) below [] = unlisted_end rule.below (place + 1) below (nothing_stands (place + 1) after below c.in-Some.ensures.below.fills (omega (arith, c.if-place-after.false))) in
    record {
      run = c.in-Some.ensures.rest;
      ahead = omega (arith, c.loop-after.invariant.ahead, c.in-Some.ensures.forth);
      told = λ left rest. c.loop-after.invariant.told left (unlisted_row c.args.context here s below next c.in-Some.ensures.first place after c.in-Some.ensures.below.fills (as_row rule) [] left some listed rest);
    }

pub loop-after-preserved-in_ok-push : goal.loop-after-preserved-in_ok-push
loop-after-preserved-in_ok-push g t c =
    let d = g.F.Forest.trees c.args.forest.now in
    let place = c.loop-after.place in
    let after = c.in-Some.after in
    let s = structure_at d place in
    let here = trees_between d place c.args.end in
    let below = trees_between d (place + 1) after in
    let next = trees_between d after c.args.end in
    let nothing : row c.args.context s.tag ≡ None = ap (row c.args.context) (sym c.tag-tag.ensures) ∙ row_among _ _ _ _ c.rows-rules.ensures.rows c.rule_among.ensures ∙ ap (λ (o : Option (Bor Rule)). option_map as_row (option_copied o)) c.in_default-rule_among.is in
    let notice = tested c.gives_notice.result c.gives_notice.ensures c.if-gives_notice.true in
    record {
      run = c.in-Some.ensures.rest;
      ahead = omega (arith, c.loop-after.invariant.ahead, c.in-Some.ensures.forth);
      told = λ left rest.
          let (places, all, same) = c.loop-after.invariant.told (place ∷ left) (unlisted_here c.args.context here s below next c.in-Some.ensures.first place after c.in-Some.ensures.below.fills left nothing (ap is_standard_tag (sym c.tag-tag.ensures) ∙ notice.0) notice.1 rest) in
          (places, all, told_one (unlisted_notice d) c.loop-after.notices.items _ _ place left _ c.in_ok-push.ensures.items (notice_same d place c.line.result c.line.ensures) same);
    }

pub loop-after-preserved : goal.loop-after-preserved
loop-after-preserved g t c =
    let d = g.F.Forest.trees c.args.forest.now in
    let place = c.loop-after.place in
    let after = c.in-Some.after in
    let s = structure_at d place in
    let here = trees_between d place c.args.end in
    let below = trees_between d (place + 1) after in
    let next = trees_between d after c.args.end in
    let nothing : row c.args.context s.tag ≡ None = ap (row c.args.context) (sym c.tag-tag.ensures) ∙ row_among _ _ _ _ c.rows-rules.ensures.rows c.rule_among.ensures ∙ ap (λ (o : Option (Bor Rule)). option_map as_row (option_copied o)) c.in_default-rule_among.is in
    record {
      run = c.in-Some.ensures.rest;
      ahead = omega (arith, c.loop-after.invariant.ahead, c.in-Some.ensures.forth);
      told = λ left rest. c.loop-after.invariant.told left (unlisted_none c.args.context here s below next c.in-Some.ensures.first place after c.in-Some.ensures.below.fills left nothing
          (λ notice. refuted c.gives_notice.result c.gives_notice.ensures c.if-gives_notice.false (ap is_standard_tag c.tag-tag.ensures ∙ notice.0, notice.1)) rest);
    }

pub returns : goal.returns
returns g t c =
    let d = g.F.Forest.trees c.args.forest.now in
    let (places, all, same) = c.loop-after.invariant.told [] (unlisted_end c.args.context c.loop-after.place (trees_between d c.loop-after.place c.args.end) c.in_default.ensures) in
    (places, all, sym (append-nil c.loop-after.notices.items) ∙ same)
