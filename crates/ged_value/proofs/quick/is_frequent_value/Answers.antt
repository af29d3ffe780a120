use Rattle.std.proofs.Common.{◌-◌, length, sym, ◌∙◌}
use Rattle.std.proofs.lemmas.Bool.{OnTrue_at, OnTrue_from, eqb-true}
use Rattle.ged_value.proofs.QuickLaws.{exact_at_end, exact_is_date, unnamed_is_date, year_is_date, date_is_value, word_at_end}
use Rattle.ged_value.proofs.quick.is_frequent_value.Goals as goal

pub returns-then-bytes-lt8 : goal.returns-then-bytes-lt8
returns-then-bytes-lt8 c =
    let text = c.args.bytes.now in
    OnTrue_from _ _ (λ t. date_is_value text (unnamed_is_date text (year_is_date text (OnTrue_at t c.is_year.ensures))))

pub returns-then-is_empty : goal.returns-then-is_empty
returns-then-is_empty c =
    let s = c.split_at.ensures in
    OnTrue_from _ _ (λ t. word_at_end c.args.bytes.now c.split_at.result.0.now c.split_at.result.1.now c.in-Some.days (length c.args.bytes.now - 8) s.front s.back (eqb-true (length c.split_at.result.0.now) 0 (sym c.is_empty.ensures ∙ c.if-is_empty.true)) c.in-Some.ensures)

pub returns-else-is_empty : goal.returns-else-is_empty
returns-else-is_empty c =
    let text = c.args.bytes.now in
    let s = c.split_at.ensures in
    OnTrue_from _ _ (λ t. date_is_value text (unnamed_is_date text (exact_is_date text (exact_at_end text c.split_at.result.0.now c.split_at.result.1.now c.in-Some.days (length text - 8) s.front s.back s.front_len (OnTrue_at t c.is_day-dated.ensures) c.in-Some.ensures))))
