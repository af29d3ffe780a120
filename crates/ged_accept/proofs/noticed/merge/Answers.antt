use Rattle.std.proofs.Common.{rules}
use Rattle.ged_accept.proofs.Merging.{merged_first, merged_second, merged_left, merged_right}
use Rattle.ged_accept.proofs.noticed.merge.Goals.{in_default, in_default-2}
use Rattle.ged_accept.proofs.noticed.merge.Goals as goal

pub loop-left-preserved-in_ok-push : goal.loop-left-preserved-in_ok-push
loop-left-preserved-in_ok-push c = λ rest more. merged_first _ _ _ _ _ _ _ _ c.loop-left.invariant rest (search rules) (search rules) c.if-x-y.true c.in_ok-push.ensures.items more

pub loop-left-preserved : goal.loop-left-preserved
loop-left-preserved c = λ rest more. merged_second _ _ _ _ _ _ _ _ c.loop-left.invariant rest (search rules) (search rules) c.if-x-y.false c.in_ok-push-2.ensures.items more

pub returns : goal.returns
returns c = elim c.if-left-lt1.branch [
  | in_default w ↦ merged_right _ _ _ _ _ _ _ c.loop-left.invariant c.in_ok-extend_from_slice.ensures.items c.in_ok-extend_from_slice-2.ensures.items w.in_default.len_below
  | in_default-2 w ↦ merged_left _ _ _ _ _ _ _ c.loop-left.invariant c.in_ok-extend_from_slice.ensures.items c.in_ok-extend_from_slice-2.ensures.items (search rules)
]
