use Rattle.std.proofs.lemmas.Bool.{OnTrue_at, OnTrue_from}
use Rattle.ged_value.proofs.QuickLaws.{calendar_before}
use Rattle.ged_value.proofs.quick.is_date.Goals as goal

pub returns : goal.returns
returns c = OnTrue_from _ _ (λ t. calendar_before c.args.bytes.now c.behind_calendar.result.now c.behind_calendar.ensures (OnTrue_at t c.is_unnamed_date.ensures))
