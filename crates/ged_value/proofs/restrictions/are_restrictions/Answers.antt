use Rattle.std.proofs.Common.{Some, None, sym, ◌∙◌, arith}
use Rattle.std.proofs.lemmas.Bool.{false≢true}
use Rattle.std.proofs.lemmas.Str.Pattern.{split_parts}
use Rattle.ged_value.proofs.CutLaws.{cut_there, cut_nowhere}
use Rattle.ged_value.proofs.RestrictionLaws.{shorter, refused, lone, cut_shorter}
use Rattle.ged_value.proofs.restrictions.are_restrictions.Goals as goal

pub loop-item-smaller : goal.loop-item-smaller
loop-item-smaller c =
    let parts = split_parts 44 c.loop-item.rest.now (Some (c.in-Some.item, c.in-Some.others)) c.in-Some.ensures.cases (omega arith) in
    rw c.trim_start-rest.ensures (cut_shorter c.loop-item.rest.now c.in-Some.item.now c.in-Some.others.now parts.0)

pub loop-item-preserved : goal.loop-item-preserved
loop-item-preserved c =
    let parts = split_parts 44 c.loop-item.rest.now (Some (c.in-Some.item, c.in-Some.others)) c.in-Some.ensures.cases (omega arith) in
    let cuts = cut_there 44 c.loop-item.rest.now c.in-Some.item.now c.in-Some.others.now parts.0 parts.1 in
    let first = sym c.is_item.ensures ∙ c.if-not-is_item.false in
    let before = shorter c.loop-item.rest.now c.in-Some.item.now c.in-Some.others.now cuts (rw c.trim_end.ensures at first) in
    let same = c.loop-item.invariant.same in
    record {
      text = c.trim_start-rest.utf8;
      same = rw c.trim_start-rest.ensures (λ h. same.0 (before.0 h), λ h. before.1 (same.1 h));
    }

pub returns-then-not-is_item : goal.returns-then-not-is_item
returns-then-not-is_item c =
    let parts = split_parts 44 c.loop-item.rest.now (Some (c.in-Some.item, c.in-Some.others)) c.in-Some.ensures.cases (omega arith) in
    let cuts = cut_there 44 c.loop-item.rest.now c.in-Some.item.now c.in-Some.others.now parts.0 parts.1 in
    let first = sym c.is_item.ensures ∙ c.if-not-is_item.true in
    (λ h. absurd (false≢true h), λ h. absurd (refused c.loop-item.rest.now c.in-Some.item.now c.in-Some.others.now cuts (rw c.trim_end.ensures at first) (c.loop-item.invariant.same.1 h)))

pub returns : goal.returns
returns c =
    let cuts = cut_nowhere 44 c.loop-item.rest.now (split_parts 44 c.loop-item.rest.now None c.in_default.ensures.cases (omega arith)) in
    let item = lone c.loop-item.rest.now cuts in
    let same = c.loop-item.invariant.same in
    rw c.is_item-2.ensures (λ h. same.0 (item.0 h), λ h. item.1 (same.1 h))
