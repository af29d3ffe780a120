use Rattle.std.proofs.Common.{◌≡◌, ◌+◌, ◌^◌, sym, ◌∙◌, arith}
use Rattle.ged_link.proofs.CountLemmas.{count_behind}
use Rattle.ged_link.proofs.names.count_in.Goals as goal

pub returns-in-Ok : goal.returns-in-Ok
returns-in-Ok c first digits e =
    let has : c.args.number ≡ 2 ^ 63 + c.in_ok-bits.bits = omega (arith, c.in_ok-bits.ensures.0, c.in_ok-bits.ensures.1) in
    c.in-Ok.ensures.1 ∙ sym (count_behind first digits c.args.number c.in_ok-bits.bits e has c.in-Ok.ensures.0)
