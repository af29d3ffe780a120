use Rattle.std.proofs.Common.{sym}
use Rattle.ged_line.proofs.line.TagOrder.{ranked}
use Rattle.ged_line.proofs.line.names.tag_order.Goals as goal

pub returns-in-Some-Some : goal.returns-in-Some-Some
returns-in-Some-Some c =
    let first = c.in-Some-Some.ensures in
    let second = c.in-Some-Some.ensures' in
    rw (c.cmp.ensures, first.1, second.1, c.as_bytes.ensures.value, c.as_bytes-2.ensures.value)
    (ranked c.args.tag.now c.args.other.now (rw (sym c.as_bytes.ensures.value) first.0) (rw (sym c.as_bytes-2.ensures.value) second.0)
    (λ i. (c.type_inv.tag i).fits) (λ i. (c.type_inv.other i).fits))
