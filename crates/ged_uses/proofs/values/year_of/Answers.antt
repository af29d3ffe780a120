use Rattle.std.proofs.Common.{◌≡◌, inr, None, refl}
use Rattle.ged_value.specs.ValueViews.{value_parts}
use Rattle.ged_value.specs.declared.date.Date.{Date}
use Rattle.ged_value.specs.declared.value.DateValue.{DateValue}
use Rattle.ged_value.specs.declared.value.DateValue.TheVariants.{Span, Plain, Between, After, Before, About, Calculated, Estimated}
use Rattle.ged_uses.specs.Years.{year_in}
use Rattle.ged_uses.proofs.values.year_of.Goals as goal

-- a date value of another form has no year
no_year : (v : DateValue) → ((d : Date) → v ≡ Plain d → ⊥) → ((d : Date) → v ≡ About d → ⊥) → None ≡ year_in (value_parts v)
no_year (Span p) h k = refl
no_year (Plain d) h k = absurd (h d refl)
no_year (Between d e) h k = refl
no_year (After d) h k = refl
no_year (Before d) h k = refl
no_year (About d) h k = absurd (k d refl)
no_year (Calculated d) h k = refl
no_year (Estimated d) h k = refl

pub returns-in_default : goal.returns-in_default
returns-in_default c = inr (value_parts c.in_ok-date.field-0, c.in_ok-date.ensures, no_year c.in_ok-date.field-0 c.in_default.not-Plain c.in_default.not-About)
