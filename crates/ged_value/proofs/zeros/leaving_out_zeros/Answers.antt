use Rattle.ged_value.proofs.ZeroTexts.{date_values, periods, exact_dates, ages, integers}
use Rattle.ged_value.proofs.zeros.leaving_out_zeros.Goals as goal

pub returns : goal.returns
returns c = record { date_value = date_values; period = periods; exact_date = exact_dates; age = ages; integer = integers }
