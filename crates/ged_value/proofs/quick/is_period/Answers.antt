use Rattle.std.proofs.lemmas.Bool.{OnTrue_at, OnTrue_from}
use Rattle.ged_value.proofs.QuickLaws.{from_is_value, period_is_value}
use Rattle.ged_value.proofs.quick.is_period.Goals as goal

pub returns-then-are_dates_around_to : goal.returns-then-are_dates_around_to
returns-then-are_dates_around_to c = OnTrue_from _ _ (λ t. period_is_value c.args.bytes.now c.in-Some.dates.now c.in-Some.ensures (OnTrue_at t c.are_dates_around_to.ensures))

pub returns-else-are_dates_around_to : goal.returns-else-are_dates_around_to
returns-else-are_dates_around_to c = OnTrue_from _ _ (λ t. from_is_value c.args.bytes.now c.in-Some.dates.now c.in-Some.ensures (OnTrue_at t c.is_date.ensures))
