-- The words that begin with a digit are where the Integers stand.
use Rattle.std.proofs.Common.{◌≡◌, ℕ, true, false, inl, inr, List, [], ◌∷◌, ◌++◌, Option, Some, None, refl, ap, ◌∙◌}
use Rattle.std.specs.Prelude.{codes, filter}
use Rattle.std.specs.Option.{option_map_or, option_to_list}
use Rattle.std.proofs.lemmas.Bool.{and_parts, false≢true}
use Rattle.std.proofs.lemmas.List.Elements.{filter-append}
use Rattle.ged_value.specs.Words.{Bytes, is_integer}
use Rattle.ged_value.specs.Zeros.{begins_with_digit, digit_words}
use Rattle.ged_value.specs.ZeroParts.{date_integers, period_integers, value_integers, exact_integers, age_integers}
use Rattle.ged_value.specs.Dates.{CalendarName, gregorian, DateParts, is_month, is_day, is_epoch, is_day_and_month, SpellsDate}
use Rattle.ged_value.specs.Values.{PeriodParts, empty, to, from, from_to, ValueParts, span, plain, between, after, before, about, calculated, estimated, Behind, BothBehind, SpellsPeriod, SpellsValue}
use Rattle.ged_value.specs.Exact.{ExactParts, SpellsExact}
use Rattle.ged_value.specs.Ages.{Sign, less, greater, AgeParts, sign_words, unit_words, duration_words, IsNumber, HasNumbers, AgeText}
use Rattle.ged_value.proofs.DateLaws.{valid}
use Rattle.ged_value.proofs.TextLaws.{words_same}
use Rattle.ged_value.proofs.AgeLaws.{age_plainly}
use Rattle.ged_value.proofs.ZeroWords.{integer_begins}
use Rattle.ged_value.proofs.ZeroDates.{month_other, epoch_other, calendar_other}

abbrev kept : List Bytes → List Bytes
kept ws = filter begins_with_digit ws

-- the words behind a date's calendar
parts_kept : (c : CalendarName) (day month : Option Bytes) (year : Bytes) (epoch : Option Bytes) → is_day_and_month c day month ≡ true → is_integer year ≡ true → option_map_or (is_epoch c) epoch true ≡ true
    → kept (option_to_list day ++ (option_to_list month ++ (year ∷ option_to_list epoch))) ≡ option_to_list day ++ (year ∷ [])
parts_kept c None None y None dm i e = rw (integer_begins y i) refl
parts_kept c None None y (Some b) dm i e = rw (integer_begins y i, epoch_other c b e) refl
parts_kept c None (Some m) y None dm i e = rw (month_other c m (and_parts (is_month c m) _ dm).0, integer_begins y i) refl
parts_kept c None (Some m) y (Some b) dm i e = rw (month_other c m (and_parts (is_month c m) _ dm).0, integer_begins y i, epoch_other c b e) refl
parts_kept c (Some d) None y e dm i h = absurd (false≢true dm)
parts_kept c (Some d) (Some m) y None dm i e =
    let p = and_parts (is_month c m) _ dm in
    rw (integer_begins d (and_parts (is_integer d) _ p.1).0, month_other c m p.0, integer_begins y i) refl
parts_kept c (Some d) (Some m) y (Some b) dm i e =
    let p = and_parts (is_month c m) _ dm in
    rw (integer_begins d (and_parts (is_integer d) _ p.1).0, month_other c m p.0, integer_begins y i, epoch_other c b e) refl

date_kept : (d : DateParts) (ws : List Bytes) → SpellsDate d ws → kept ws ≡ date_integers d
date_kept d ws s =
    let v = valid d s.0 in
    let parts = parts_kept d.calendar d.day d.month d.year d.epoch v.days v.year v.epoch in
    elim s.1 [ inl n ↦ rw (n, calendar_other d.calendar v.calendar) parts | inr n ↦ rw n.1 parts ]

behind_kept : (k : Bytes) → begins_with_digit k ≡ false → (d : DateParts) (ws : List Bytes) → Behind k d ws → kept ws ≡ date_integers d
behind_kept k n d ws s = rw (s.2, n) (date_kept d s.0 s.1)

both_kept : (k l : Bytes) → begins_with_digit k ≡ false → begins_with_digit l ≡ false → (d e : DateParts) (ws : List Bytes) → BothBehind k d l e ws → kept ws ≡ date_integers d ++ date_integers e
both_kept k l n m d e ws s = rw (s.4, n, filter-append begins_with_digit s.0 (l ∷ s.1), m, date_kept d s.0 s.2, date_kept e s.1 s.3) refl

pub period_kept : (p : PeriodParts) (ws : List Bytes) → SpellsPeriod p ws → kept ws ≡ period_integers p
period_kept empty ws s = rw s refl
period_kept (to d) ws s = behind_kept (codes "TO") refl d ws s
period_kept (from d) ws s = behind_kept (codes "FROM") refl d ws s
period_kept (from_to d e) ws s = both_kept (codes "FROM") (codes "TO") refl refl d e ws s

pub value_kept : (v : ValueParts) (ws : List Bytes) → SpellsValue v ws → kept ws ≡ value_integers v
value_kept (span p) ws s = period_kept p ws s
value_kept (plain d) ws s = date_kept d ws s
value_kept (between d e) ws s = both_kept (codes "BET") (codes "AND") refl refl d e ws s
value_kept (after d) ws s = behind_kept (codes "AFT") refl d ws s
value_kept (before d) ws s = behind_kept (codes "BEF") refl d ws s
value_kept (about d) ws s = behind_kept (codes "ABT") refl d ws s
value_kept (calculated d) ws s = behind_kept (codes "CAL") refl d ws s
value_kept (estimated d) ws s = behind_kept (codes "EST") refl d ws s

pub exact_kept : (e : ExactParts) (ws : List Bytes) → SpellsExact e ws → kept ws ≡ exact_integers e
exact_kept e ws s =
    let p = and_parts (is_month gregorian e.month) _ s.0 in
    let q = and_parts (is_day gregorian e.month e.day) _ p.1 in
    rw (s.1, integer_begins e.day (and_parts (is_integer e.day) _ q.0).0, month_other gregorian e.month p.0, integer_begins e.year q.1) refl

number_begins : (digits behind : Bytes) → is_integer digits ≡ true → begins_with_digit (digits ++ behind) ≡ true
number_begins [] behind i = absurd (false≢true i)
number_begins (b ∷ bs) behind i = integer_begins (b ∷ bs) i

unit_kept : (letter : ℕ) (part : Option Bytes) → IsNumber part → kept (unit_words letter part) ≡ unit_words letter part
unit_kept letter None i = refl
unit_kept letter (Some digits) i = rw (number_begins digits (letter ∷ []) i) refl

both_all_kept : (left right : List Bytes) → kept left ≡ left → kept right ≡ right → kept (left ++ right) ≡ left ++ right
both_all_kept left right l r = filter-append begins_with_digit left right ∙ ap (λ x. x ++ kept right) l ∙ ap (λ x. left ++ x) r

duration_kept : (a : AgeParts) → HasNumbers a → kept (duration_words a) ≡ duration_words a
duration_kept a i =
    both_all_kept (unit_words 121 a.years) _ (unit_kept 121 a.years i.0)
    (both_all_kept (unit_words 109 a.months) _ (unit_kept 109 a.months i.1)
    (both_all_kept (unit_words 119 a.weeks) _ (unit_kept 119 a.weeks i.2) (unit_kept 100 a.days i.3)))

sign_kept : (bound : Option Sign) → kept (sign_words bound) ≡ []
sign_kept None = refl
sign_kept (Some less) = refl
sign_kept (Some greater) = refl

pub age_kept : (text : Bytes) (age : AgeParts) → AgeText age text → digit_words text ≡ age_integers age
age_kept text a is = elim is [
  | inl n ↦ rw (n.0, n.1) refl
  | inr s ↦ ap kept (words_same (sign_words a.bound ++ duration_words a) text (age_plainly a s.0 s.1) s.2)
      ∙ filter-append begins_with_digit (sign_words a.bound) (duration_words a)
      ∙ ap (λ x. x ++ kept (duration_words a)) (sign_kept a.bound) ∙ duration_kept a s.0
]
