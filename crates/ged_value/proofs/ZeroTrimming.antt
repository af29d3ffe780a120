-- The trimmed words of a date, a period or a date value spell its trimmed parts.
use Rattle.std.proofs.Common.{◌≡◌, true, inl, inr, List, [], ◌∷◌, ◌++◌, map, Option, Some, None, refl, ap, ◌∙◌}
use Rattle.std.specs.Prelude.{codes}
use Rattle.std.specs.Option.{option_map, option_map_or, option_to_list}
use Rattle.std.proofs.lemmas.Bool.{and_parts, and_from, false≢true}
use Rattle.std.proofs.lemmas.List.{map-append}
use Rattle.ged_value.specs.Words.{Bytes, is_integer}
use Rattle.ged_value.specs.Zeros.{trim_zeros}
use Rattle.ged_value.specs.ZeroParts.{trimmed_date, trimmed_period, trimmed_value, trimmed_exact}
use Rattle.ged_value.specs.Dates.{CalendarName, gregorian, DateParts, calendar_word, is_month, is_day, is_epoch, is_calendar, is_day_and_month, is_date, date_words, SpellsDate}
use Rattle.ged_value.specs.Values.{PeriodParts, empty, to, from, from_to, ValueParts, span, plain, between, after, before, about, calculated, estimated, Behind, BothBehind, SpellsPeriod, SpellsValue}
use Rattle.ged_value.specs.Exact.{ExactParts, SpellsExact}
use Rattle.ged_value.proofs.DateLaws.{valid}
use Rattle.ged_value.proofs.ZeroWords.{shorter_trimmed, integer_trims, other_trims}
use Rattle.ged_value.proofs.ZeroDates.{month_other, epoch_other, calendar_other, day_stays}

day_trims : (c : CalendarName) (m day : Bytes) → is_day c m day ≡ true → is_day c m (trim_zeros day) ≡ true
day_trims c m day h = day_stays c m day (trim_zeros day) (shorter_trimmed day) h

day_and_month_trims : (c : CalendarName) (day month : Option Bytes) → is_day_and_month c day month ≡ true → is_day_and_month c (option_map trim_zeros day) month ≡ true
day_and_month_trims c None month h = h
day_and_month_trims c (Some d) None h = h
day_and_month_trims c (Some d) (Some m) h = let p = and_parts (is_month c m) _ h in and_from (is_month c m) _ p.0 (day_trims c m d p.1)

date_trims : (d : DateParts) → is_date d ≡ true → is_date (trimmed_date d) ≡ true
date_trims d h =
    let v = valid d h in
    and_from (is_calendar d.calendar) _ v.calendar
    (and_from (is_day_and_month d.calendar (option_map trim_zeros d.day) d.month) _ (day_and_month_trims d.calendar d.day d.month v.days)
    (and_from (is_integer (trim_zeros d.year)) _ (integer_trims d.year v.year).integer v.epoch))

-- the words behind a date's calendar
parts_trim : (c : CalendarName) (day month : Option Bytes) (year : Bytes) (epoch : Option Bytes) → is_day_and_month c day month ≡ true → option_map_or (is_epoch c) epoch true ≡ true
    → map trim_zeros (option_to_list day ++ (option_to_list month ++ (year ∷ option_to_list epoch))) ≡ option_to_list (option_map trim_zeros day) ++ (option_to_list month ++ (trim_zeros year ∷ option_to_list epoch))
parts_trim c None None y None dm e = refl
parts_trim c None None y (Some b) dm e = rw (other_trims b (epoch_other c b e)) refl
parts_trim c None (Some m) y None dm e = rw (other_trims m (month_other c m (and_parts (is_month c m) _ dm).0)) refl
parts_trim c None (Some m) y (Some b) dm e = rw (other_trims m (month_other c m (and_parts (is_month c m) _ dm).0), other_trims b (epoch_other c b e)) refl
parts_trim c (Some d) None y e dm h = absurd (false≢true dm)
parts_trim c (Some d) (Some m) y None dm e = rw (other_trims m (month_other c m (and_parts (is_month c m) _ dm).0)) refl
parts_trim c (Some d) (Some m) y (Some b) dm e = rw (other_trims m (month_other c m (and_parts (is_month c m) _ dm).0), other_trims b (epoch_other c b e)) refl

pub date_trimmed : (d : DateParts) (ws : List Bytes) → SpellsDate d ws → SpellsDate (trimmed_date d) (map trim_zeros ws)
date_trimmed d ws s =
    let v = valid d s.0 in
    let words = parts_trim d.calendar d.day d.month d.year d.epoch v.days v.epoch in (
      date_trims d s.0,
      elim s.1 [
        | inl n ↦ inl (ap (map trim_zeros) n ∙ ap (λ x. x ∷ map trim_zeros (date_words d)) (other_trims (calendar_word d.calendar) (calendar_other d.calendar v.calendar)) ∙ ap (λ x. calendar_word d.calendar ∷ x) words)
        | inr n ↦ inr (n.0, ap (map trim_zeros) n.1 ∙ words)
      ],
    )

behind_trimmed : (k : Bytes) → trim_zeros k ≡ k → (d : DateParts) (ws : List Bytes) → Behind k d ws → Behind k (trimmed_date d) (map trim_zeros ws)
behind_trimmed k n d ws s = (map trim_zeros s.0, date_trimmed d s.0 s.1, ap (map trim_zeros) s.2 ∙ ap (λ x. x ∷ map trim_zeros s.0) n)

both_trimmed : (k l : Bytes) → trim_zeros k ≡ k → trim_zeros l ≡ l → (d e : DateParts) (ws : List Bytes) → BothBehind k d l e ws → BothBehind k (trimmed_date d) l (trimmed_date e) (map trim_zeros ws)
both_trimmed k l n m d e ws s = (
  map trim_zeros s.0,
  map trim_zeros s.1,
  date_trimmed d s.0 s.2,
  date_trimmed e s.1 s.3,
  ap (map trim_zeros) s.4 ∙ ap (λ x. x ∷ map trim_zeros (s.0 ++ (l ∷ s.1))) n
      ∙ ap (λ x. k ∷ x) (map-append trim_zeros s.0 (l ∷ s.1) ∙ ap (λ x. map trim_zeros s.0 ++ (x ∷ map trim_zeros s.1)) m),
)

pub period_trimmed : (p : PeriodParts) (ws : List Bytes) → SpellsPeriod p ws → SpellsPeriod (trimmed_period p) (map trim_zeros ws)
period_trimmed empty ws s = ap (map trim_zeros) s
period_trimmed (to d) ws s = behind_trimmed (codes "TO") refl d ws s
period_trimmed (from d) ws s = behind_trimmed (codes "FROM") refl d ws s
period_trimmed (from_to d e) ws s = both_trimmed (codes "FROM") (codes "TO") refl refl d e ws s

pub value_trimmed : (v : ValueParts) (ws : List Bytes) → SpellsValue v ws → SpellsValue (trimmed_value v) (map trim_zeros ws)
value_trimmed (span p) ws s = period_trimmed p ws s
value_trimmed (plain d) ws s = date_trimmed d ws s
value_trimmed (between d e) ws s = both_trimmed (codes "BET") (codes "AND") refl refl d e ws s
value_trimmed (after d) ws s = behind_trimmed (codes "AFT") refl d ws s
value_trimmed (before d) ws s = behind_trimmed (codes "BEF") refl d ws s
value_trimmed (about d) ws s = behind_trimmed (codes "ABT") refl d ws s
value_trimmed (calculated d) ws s = behind_trimmed (codes "CAL") refl d ws s
value_trimmed (estimated d) ws s = behind_trimmed (codes "EST") refl d ws s

pub exact_trimmed : (e : ExactParts) (ws : List Bytes) → SpellsExact e ws → SpellsExact (trimmed_exact e) (map trim_zeros ws)
exact_trimmed e ws s =
    let p = and_parts (is_month gregorian e.month) _ s.0 in
    let q = and_parts (is_day gregorian e.month e.day) _ p.1 in (
      and_from (is_month gregorian e.month) _ p.0 (and_from (is_day gregorian e.month (trim_zeros e.day)) _ (day_trims gregorian e.month e.day q.0) (integer_trims e.year q.1).integer),
      ap (map trim_zeros) s.1 ∙ ap (λ x. trim_zeros e.day ∷ x ∷ trim_zeros e.year ∷ []) (other_trims e.month (month_other gregorian e.month p.0)),
    )
