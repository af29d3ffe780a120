use Rattle.std.proofs.Common.{sym, ◌∙◌}
use Rattle.std.proofs.lemmas.Bool.{OnTrue_at, OnTrue_from}
use Rattle.ged_value.proofs.QuickLaws.{exact_is_date, month_is_date, year_is_date}
use Rattle.ged_value.proofs.quick.is_unnamed_date.Goals as goal
use Rattle.ged_value.proofs.quick.is_unnamed_date.Goals.{then-is_exact, else-is_exact}

pub returns-then-is_month_and_year : goal.returns-then-is_month_and_year
returns-then-is_month_and_year c =
    let text = c.args.bytes.now in
    OnTrue_from _ _ (λ t. elim c.if-is_exact.branch [
      | then-is_exact w ↦ exact_is_date text (OnTrue_at w.if-is_exact.true c.is_exact.ensures)
      | else-is_exact w ↦ let month = OnTrue_at (sym w.value-is ∙ t) w.is_month_and_year.ensures in month_is_date text month.0 month.1
    ])

pub returns-else-is_month_and_year : goal.returns-else-is_month_and_year
returns-else-is_month_and_year c = OnTrue_from _ _ (λ t. year_is_date c.args.bytes.now (OnTrue_at t c.is_year.ensures))
