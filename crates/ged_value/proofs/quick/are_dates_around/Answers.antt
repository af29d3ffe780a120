use Rattle.std.proofs.lemmas.Bool.{OnTrue_at, OnTrue_from}
use Rattle.ged_value.proofs.QuickLaws.{dates_there}
use Rattle.ged_value.proofs.quick.are_dates_around.Goals as goal

pub returns-then-is_unnamed_date : goal.returns-then-is_unnamed_date
returns-then-is_unnamed_date c =
    OnTrue_from _ _ (λ t. dates_there c.args.word.now c.args.bytes.now c.behind_calendar.result.now c.in-Some.front.now c.in-Some.back.now c.behind_calendar.ensures c.in-Some.ensures c.if-is_unnamed_date.ensures (OnTrue_at t c.is_date.ensures))
