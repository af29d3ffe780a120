use Rattle.std.proofs.lemmas.Bool.{OnTrue_at, OnTrue_from}
use Rattle.ged_value.proofs.QuickLaws.{between_is_value}
use Rattle.ged_value.proofs.quick.is_between.Goals as goal

pub returns-in-Some : goal.returns-in-Some
returns-in-Some c = OnTrue_from _ _ (λ t. between_is_value c.args.bytes.now c.in-Some.dates.now c.in-Some.ensures (OnTrue_at t c.are_dates_around_and.ensures))
