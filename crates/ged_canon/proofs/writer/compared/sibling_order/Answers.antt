use Rattle.std.proofs.Common.{◌≡◌, ◌≤◌, ◌%◌, sym, ◌∙◌, arith}
use Rattle.ged_canon.specs.inner.Siblings.{own_tag}
use Rattle.ged_canon.proofs.writer.RankOrder.{order_told, order_left}
use Rattle.ged_canon.proofs.writer.compared.sibling_order.Goals as goal
use Rattle.ged_canon.proofs.writer.compared.sibling_order.Goals.{else-first-gt8-via-then-first-gt8+else-first-other, else-first-gt8-via-else-first-gt8}

-- one rank of long tags leaves the order to them
pub returns-then-first-other : goal.returns-then-first-other
returns-then-first-other g c =
    let d = g.F.Forest.trees c.args.forest.now in
    let x = c.args.first.now in
    let y = c.args.other.now in
    c.order_at.ensures ∙ sym (order_left x.rank y.rank (own_tag d x) (own_tag d y) c.if-first-other.true c.if-first-gt8.true)

pub returns : goal.returns
returns g c =
    let d = g.F.Forest.trees c.args.forest.now in
    let x = c.args.first.now in
    let y = c.args.other.now in
    let short : (x.rank ≡ y.rank) → x.rank % 256 ≤ 8 = λ e.
    elim c.else-first-gt8.branch [
      | else-first-gt8-via-then-first-gt8+else-first-other w ↦ absurd (w.if-first-other.false e)
      | else-first-gt8-via-else-first-gt8 w ↦ (let k = w.if-first-gt8.false in omega (arith, k))
    ] in
    c.cmp.ensures ∙ sym (order_told x.rank y.rank (own_tag d x) (own_tag d y) short)
