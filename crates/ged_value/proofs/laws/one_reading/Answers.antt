use Rattle.ged_value.specs.Values.{SpellsPeriod, SpellsValue}
use Rattle.ged_value.specs.inner.ValueReading.{period_at, value_at}
use Rattle.ged_value.specs.ValueViews.{period_parts, value_parts}
use Rattle.ged_value.specs.Exact.{SpellsExact}
use Rattle.ged_value.specs.inner.ExactReading.{exact_at}
use Rattle.ged_value.specs.ExactViews.{exact_parts}
use Rattle.ged_value.specs.Times.{TimeText}
use Rattle.ged_value.specs.inner.TimeReading.{time_at}
use Rattle.ged_value.specs.Names.{NameText}
use Rattle.ged_value.specs.inner.NameReading.{name_at}
use Rattle.ged_value.proofs.ValueLaws.{value_again, value_found, period_again, period_found}
use Rattle.ged_value.proofs.TextLaws.{only_reading, period_plainly, value_plainly}
use Rattle.ged_value.proofs.AgeLaws.{one_age}
use Rattle.ged_value.proofs.ExactLaws.{exact_again, exact_found, exact_plainly}
use Rattle.ged_value.proofs.TimeLaws.{time_again}
use Rattle.ged_value.proofs.NameLaws.{name_again}
use Rattle.ged_value.proofs.RestrictionLaws.{same_list}
use Rattle.ged_value.proofs.ReadingLaws.{same_reading}
use Rattle.ged_value.proofs.laws.one_reading.Goals as goal

pub returns : goal.returns
returns c = record {
  date_value = only_reading value_parts SpellsValue value_at value_again value_found value_plainly;
  period = only_reading period_parts SpellsPeriod period_at period_again period_found period_plainly;
  exact_date = only_reading exact_parts SpellsExact exact_at exact_again exact_found exact_plainly;
  time = same_reading TimeText time_at time_again;
  age = one_age;
  name = same_reading NameText name_at name_again;
  restrictions = λ text x y g h. same_list x y text g h;
}
