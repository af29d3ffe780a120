use Rattle.std.proofs.Common.{◌-◌, length}
use Rattle.std.proofs.lemmas.Bool.{OnTrue_at, OnTrue_from}
use Rattle.ged_value.proofs.QuickLaws.{exact_at_end}
use Rattle.ged_value.proofs.quick.is_exact.Goals as goal

pub returns-in-Some : goal.returns-in-Some
returns-in-Some c =
    let s = c.split_at.ensures in
    OnTrue_from _ _ (λ t. exact_at_end c.args.bytes.now c.split_at.result.0.now c.split_at.result.1.now c.in-Some.days (length c.args.bytes.now - 8) s.front s.back s.front_len (OnTrue_at t c.is_day.ensures) c.in-Some.ensures)
