use Rattle.std.proofs.Common.{arith, sym, subst, ap, ◌∙◌, ◌≡◌, ◌+◌, Some, None}
use Rattle.ged_line.specs.Names.{is_tag, is_standard_tag}
use Rattle.ged_tree.specs.Trees.{Trees}
use Rattle.ged_tree.specs.Places.{structure_at}
use Rattle.ged_tree.specs.Runs.{trees_between}
use Rattle.ged_schema.specs.Tables.{rows, row}
use Rattle.ged_schema.specs.Checked.{AreChecked}
use Rattle.ged_schema.proofs.Numbers.{row_among, number_among, row_there}
use Rattle.ged_schema.proofs.Runs.{IsOnlyNumber, checked_none, tested, refuted}
use Rattle.ged_schema.proofs.Listing.{document_tag}
use Rattle.ged_schema.proofs.Marking.{none_marked, marked_none, marked_right, nothing_stands, nothing_right, rule_row, rule_marked, rule_checked, on_true, true_on}
use Rattle.ged_schema.proofs.Noting.{noted_first, noted_row, noted_leaf, noted_here, noted_none, noted_all}
use Rattle.ged_schema.proofs.quick_check.+all_pass.Goals as goal

pub loop-after-init : goal.loop-after-init
loop-after-init g t c = record {
  run = c.requires.run;
  ahead = omega arith;
  marked = none_marked (rows c.args.context) _;
  checked = λ right. right;
  noted = noted_first c.args.context c.args.pass.now.noted _;
}

pub gives_notice-requires : goal.gives_notice-requires
gives_notice-requires g t c = ap is_tag c.tag_and_payload.ensures.tag ∙ document_tag (g.F.Forest.trees c.args.forest.now) c.loop-after.place c.requires.document c.in-Some.ensures.within

pub loop-after-preserved-else-not-all_pass : goal.loop-after-preserved-else-not-all_pass
loop-after-preserved-else-not-all_pass g t c =
    let d = g.F.Forest.trees c.args.forest.now in
    let place = c.loop-after.place in
    let after = c.in-Some.after in
    let s = structure_at d place in
    let here = trees_between d place c.args.end in
    let all = trees_between d c.args.start c.args.end in
    let below = trees_between d (place + 1) after in
    let next = trees_between d after c.args.end in
    let k = c.in-Some-number_among.number in
    let old = c.loop-after.marks in
    let only : IsOnlyNumber (rows c.args.context) s.tag (Some k) = λ i r stands same. c.in-Some-number_among.ensures.only i r (rw c.rows-rules.ensures.rows stands) (same ∙ sym c.tag_and_payload.ensures.tag) in
    let (within, found) = number_among c.args.context c.rows-rules.result.now c.tag_and_payload.result.0.now k c.rows-rules.ensures.rows c.in-Some-number_among.ensures.row in
    let passed = on_true c.all_pass.result c.all_pass.ensures c.if-not-all_pass.false in
    record {
      run = c.in-Some.ensures.rest;
      ahead = omega (arith, c.loop-after.invariant.ahead, c.in-Some.ensures.forth);
      marked = rule_marked c.args.context here s below next c.in-Some.ensures.first c.tag_and_payload.result.0.now c.tag_and_payload.ensures.tag c.rows-rules.result.now c.rows-rules.ensures.rows k within found _ old all c.loop-after.invariant.marked only
          (on_true c.mark.result c.mark.ensures.free c.if-not-mark.false) c.mark.new.marks c.mark.ensures.marked;
      checked = λ rest. c.loop-after.invariant.checked
          (rule_checked c.args.context here s below next c.in-Some.ensures.first c.tag_and_payload.result.0.now c.tag_and_payload.ensures.tag c.rows-rules.result.now c.rows-rules.ensures.rows k within found _ d
          (on_true c.is_payload_right.result c.is_payload_right.ensures c.if-not-is_payload_right.false)
          (passed.0, passed.1)
          rest);
      noted = noted_row c.args.context c.loop-after.pass.noted here all c.args.pass.now.noted s below next c.in-Some.ensures.first c.loop-after.invariant.noted _
          (rule_row c.args.context here s below next c.in-Some.ensures.first c.tag_and_payload.result.0.now c.tag_and_payload.ensures.tag c.rows-rules.result.now c.rows-rules.ensures.rows k within found _)
          c.all_pass.new.pass.noted passed.2;
    }

pub loop-after-preserved-else-not-needs_nothing : goal.loop-after-preserved-else-not-needs_nothing
loop-after-preserved-else-not-needs_nothing g t c =
    let d = g.F.Forest.trees c.args.forest.now in
    let place = c.loop-after.place in
    let after = c.in-Some.after in
    let s = structure_at d place in
    let here = trees_between d place c.args.end in
    let all = trees_between d c.args.start c.args.end in
    let below = trees_between d (place + 1) after in
    let next = trees_between d after c.args.end in
    let k = c.in-Some-number_among.number in
    let old = c.loop-after.marks in
    let only : IsOnlyNumber (rows c.args.context) s.tag (Some k) = λ i r stands same. c.in-Some-number_among.ensures.only i r (rw c.rows-rules.ensures.rows stands) (same ∙ sym c.tag_and_payload.ensures.tag) in
    let (within, found) = number_among c.args.context c.rows-rules.result.now c.tag_and_payload.result.0.now k c.rows-rules.ensures.rows c.in-Some-number_among.ensures.row in
    let (r, some) = row_there c.args.context c.tag_and_payload.result.0.now k within found in
    let bare = nothing_stands (place + 1) after below c.in-Some.ensures.below.fills (omega (arith, c.if-place-after.false)) in
    record {
      run = c.in-Some.ensures.rest;
      ahead = omega (arith, c.loop-after.invariant.ahead, c.in-Some.ensures.forth);
      marked = rule_marked c.args.context here s below next c.in-Some.ensures.first c.tag_and_payload.result.0.now c.tag_and_payload.ensures.tag c.rows-rules.result.now c.rows-rules.ensures.rows k within found _ old all c.loop-after.invariant.marked only
          (on_true c.mark.result c.mark.ensures.free c.if-not-mark.false) c.mark.new.marks c.mark.ensures.marked;
      checked = λ rest. c.loop-after.invariant.checked
          (rule_checked c.args.context here s below next c.in-Some.ensures.first c.tag_and_payload.result.0.now c.tag_and_payload.ensures.tag c.rows-rules.result.now c.rows-rules.ensures.rows k within found _ d
          (on_true c.is_payload_right.result c.is_payload_right.ensures c.if-not-is_payload_right.false)
          (nothing_right d _ below bare (on_true c.needs_nothing.result c.needs_nothing.ensures c.if-not-needs_nothing.false))
          rest);
      noted = noted_leaf c.args.context c.loop-after.pass.noted here all c.args.pass.now.noted s below next c.in-Some.ensures.first c.loop-after.invariant.noted r (ap (row c.args.context) (sym c.tag_and_payload.ensures.tag) ∙ some) bare;
    }

pub loop-after-preserved-then-gives_notice : goal.loop-after-preserved-then-gives_notice
loop-after-preserved-then-gives_notice g t c =
    let d = g.F.Forest.trees c.args.forest.now in
    let place = c.loop-after.place in
    let s = structure_at d place in
    let here = trees_between d place c.args.end in
    let all = trees_between d c.args.start c.args.end in
    let below = trees_between d (place + 1) c.in-Some.after in
    let next = trees_between d c.in-Some.after c.args.end in
    let only : IsOnlyNumber (rows c.args.context) s.tag None = λ i r stands same. c.in_default-number_among.ensures.only i r (rw c.rows-rules.ensures.rows stands) (same ∙ sym c.tag_and_payload.ensures.tag) in
    let nothing : row c.args.context s.tag ≡ None = ap (row c.args.context) (sym c.tag_and_payload.ensures.tag) ∙ row_among c.args.context c.rows-rules.result.now c.tag_and_payload.result.0.now None c.rows-rules.ensures.rows (sym c.in_default-number_among.ensures.row) in
    let notice = tested c.gives_notice.result c.gives_notice.ensures c.if-gives_notice.true in
    record {
      run = c.in-Some.ensures.rest;
      ahead = omega (arith, c.loop-after.invariant.ahead, c.in-Some.ensures.forth);
      marked = marked_none (rows c.args.context) c.loop-after.marks here all s below next c.in-Some.ensures.first c.loop-after.invariant.marked only;
      checked = λ rest. c.loop-after.invariant.checked (checked_none d c.args.context here s below next c.in-Some.ensures.first nothing rest);
      noted = noted_here c.args.context c.loop-after.pass.noted here all c.args.pass.now.noted s below next c.in-Some.ensures.first c.loop-after.invariant.noted nothing (ap is_standard_tag (sym c.tag_and_payload.ensures.tag) ∙ notice.0) notice.1;
    }

pub loop-after-preserved : goal.loop-after-preserved
loop-after-preserved g t c =
    let d = g.F.Forest.trees c.args.forest.now in
    let place = c.loop-after.place in
    let s = structure_at d place in
    let here = trees_between d place c.args.end in
    let all = trees_between d c.args.start c.args.end in
    let below = trees_between d (place + 1) c.in-Some.after in
    let next = trees_between d c.in-Some.after c.args.end in
    let only : IsOnlyNumber (rows c.args.context) s.tag None = λ i r stands same. c.in_default-number_among.ensures.only i r (rw c.rows-rules.ensures.rows stands) (same ∙ sym c.tag_and_payload.ensures.tag) in
    let nothing : row c.args.context s.tag ≡ None = ap (row c.args.context) (sym c.tag_and_payload.ensures.tag) ∙ row_among c.args.context c.rows-rules.result.now c.tag_and_payload.result.0.now None c.rows-rules.ensures.rows (sym c.in_default-number_among.ensures.row) in
    record {
      run = c.in-Some.ensures.rest;
      ahead = omega (arith, c.loop-after.invariant.ahead, c.in-Some.ensures.forth);
      marked = marked_none (rows c.args.context) c.loop-after.marks here all s below next c.in-Some.ensures.first c.loop-after.invariant.marked only;
      checked = λ rest. c.loop-after.invariant.checked (checked_none d c.args.context here s below next c.in-Some.ensures.first nothing rest);
      noted = noted_none c.args.context c.loop-after.pass.noted here all c.args.pass.now.noted s below next c.in-Some.ensures.first c.loop-after.invariant.noted nothing
          (λ notice. refuted c.gives_notice.result c.gives_notice.ensures c.if-gives_notice.false (ap is_standard_tag c.tag_and_payload.ensures.tag ∙ notice.0, notice.1));
    }

pub returns : goal.returns
returns g t c =
    let d = g.F.Forest.trees c.args.forest.now in
    let left = trees_between d c.loop-after.place c.args.end in
    let all = trees_between d c.args.start c.args.end in
    true_on c.are_needed_marked.result c.are_needed_marked.ensures (λ h. (
      marked_right h.0 (rows c.args.context) c.loop-after.marks left all c.in_default.ensures h.1 h.2 c.loop-after.invariant.marked,
      c.loop-after.invariant.checked (subst (λ (x : Trees). AreChecked d c.args.context x) (sym c.in_default.ensures) tt),
      noted_all c.args.context c.loop-after.pass.noted left c.args.pass.now.noted all c.in_default.ensures c.loop-after.invariant.noted,
    ))
