-- Leading zeros in the payloads of a kind.
use Rattle.std.proofs.Common.{◌≡◌, true, refl, sym, subst}
use Rattle.std.proofs.lemmas.Bool.{false≢true}
use Rattle.ged_value.specs.Words.{is_integer}
use Rattle.ged_value.specs.ZeroParts.{trimmed_value, trimmed_period, trimmed_exact, trimmed_age}
use Rattle.ged_value.specs.ZeroKinds.{IntegersFitWithoutZeros}
use Rattle.ged_value.specs.declared.kind.Kind.TheVariants.{Integer, DateValue, DatePeriod, DateExact, Age}
use Rattle.ged_value.proofs.ZeroTexts.{date_values, periods, exact_dates, ages, integers}

pub fitting : IntegersFitWithoutZeros
fitting DateValue h = record {
  one_left_out = λ line fewer is l. date_values.one_left_out line is.0 fewer is.1 l;
  all_left_out = λ line is. let r = date_values.all_left_out line is.0 is.1 in (r.0, (trimmed_value is.0, r.1));
  none_is_left = λ line is. date_values.none_is_left line is.0 is.1;
}
fitting DatePeriod h = record {
  one_left_out = λ line fewer is l. periods.one_left_out line is.0 fewer is.1 l;
  all_left_out = λ line is. let r = periods.all_left_out line is.0 is.1 in (r.0, (trimmed_period is.0, r.1));
  none_is_left = λ line is. periods.none_is_left line is.0 is.1;
}
fitting DateExact h = record {
  one_left_out = λ line fewer is l. exact_dates.one_left_out line is.0 fewer is.1 l;
  all_left_out = λ line is. let r = exact_dates.all_left_out line is.0 is.1 in (r.0, (trimmed_exact is.0, r.1));
  none_is_left = λ line is. exact_dates.none_is_left line is.0 is.1;
}
fitting Age h = record {
  one_left_out = λ line fewer is l. ages.one_left_out line is.0 fewer is.1 l;
  all_left_out = λ line is. let r = ages.all_left_out line is.0 is.1 in (r.0, (trimmed_age is.0, r.1));
  none_is_left = λ line is. ages.none_is_left line is.0 is.1;
}
fitting Integer h = record {
  one_left_out = λ line fewer is l.
      let r = integers.one_left_out line line fewer (is, refl) l in
      (r.0, subst (λ digits. is_integer digits ≡ true) (sym r.1.1.1) r.1.1.0);
  all_left_out = λ line is.
      let r = integers.all_left_out line line (is, refl) in
      (r.0, subst (λ digits. is_integer digits ≡ true) (sym r.1.1) r.1.0);
  none_is_left = λ line is. integers.none_is_left line line (is, refl);
}
fitting _ h = absurd (false≢true h)
