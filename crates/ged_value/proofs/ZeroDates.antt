-- Words without some of their leading zeros spell a date, a period or a date value again.
use Rattle.std.proofs.Common.{◌≡◌, ℕ, true, false, ◌&&◌, inl, inr, List, [], ◌∷◌, ◌++◌, Option, Some, None, is_some, refl, sym, ap, subst, ◌∙◌, arith}
use Rattle.std.specs.Prelude.{codes, nat_le}
use Rattle.std.specs.Char.{is_ascii_digit, is_ascii_uppercase}
use Rattle.std.specs.Option.{option_map_or, option_to_list}
use Rattle.std.proofs.lemmas.Bool.{and_parts, and_from, or_cases, false≢true, false_from_ne_true}
use Rattle.std.proofs.lemmas.Bool.Decides.{nat_tests}
use Rattle.ged_value.specs.Words.{Bytes, is_integer, is_standard_tag, is_extension_tag}
use Rattle.ged_value.specs.Zeros.{begins_with_digit}
use Rattle.ged_value.specs.Dates.{CalendarName, gregorian, julian, french_r, hebrew, extension, DateParts, calendar_word, greatest_day, is_month, is_day, is_epoch, is_calendar, is_day_and_month, is_date, date_words, SpellsDate}
use Rattle.ged_value.specs.inner.Months.{french_days, french_months, hebrew_months}
use Rattle.ged_value.specs.Values.{PeriodParts, empty, to, from, from_to, ValueParts, span, plain, between, after, before, about, calculated, estimated, Behind, BothBehind, SpellsPeriod, SpellsValue}
use Rattle.ged_value.specs.Exact.{ExactParts, SpellsExact}
use Rattle.ged_value.proofs.DateLaws.{apart_back, none_such, roman_none, tag_first, same_word, valid}
use Rattle.ged_value.proofs.ZeroWords.{Shorter, integer_stays, other_stays}
use Rattle.ged_value.proofs.ZeroLists.{EachShorter, each_of_both}

-- Words that begin with no digit: months, epochs, calendars.

tag_other : (w : Bytes) → is_extension_tag w ≡ true → begins_with_digit w ≡ false
tag_other w h = ap begins_with_digit (tag_first w h).1

capital_other : (c : ℕ) → is_ascii_uppercase c ≡ true → is_ascii_digit c ≡ false
capital_other c h = grind (arith, nat_tests)

standard_other : (w : Bytes) → is_standard_tag w ≡ true → begins_with_digit w ≡ false
standard_other [] h = refl
standard_other (c ∷ cs) h = capital_other c (and_parts _ _ h).0

ruled_out : (o : Option ℕ) (m : Bytes) → (begins_with_digit m ≡ true → o ≡ None) → is_some o ≡ true → begins_with_digit m ≡ false
ruled_out o m h s = false_from_ne_true _ (λ t. false≢true (sym (ap is_some (h t)) ∙ s))

french_none : (m : Bytes) → begins_with_digit m ≡ true → french_days m ≡ None
french_none m t = rw (none_such begins_with_digit french_months m t refl, apart_back begins_with_digit m (codes "COMP") t refl) refl

hebrew_none : (m : Bytes) → begins_with_digit m ≡ true → greatest_day hebrew m ≡ None
hebrew_none m t = rw (none_such begins_with_digit hebrew_months m t refl) refl

pub month_other : (c : CalendarName) (m : Bytes) → is_month c m ≡ true → begins_with_digit m ≡ false
month_other gregorian m h = ruled_out _ m (λ t. roman_none begins_with_digit m t refl refl refl) h
month_other julian m h = ruled_out _ m (λ t. roman_none begins_with_digit m t refl refl refl) h
month_other french_r m h = ruled_out _ m (french_none m) h
month_other hebrew m h = ruled_out _ m (hebrew_none m) h
month_other (extension tag) m h = elim (or_cases _ _ h) [ inl t ↦ tag_other m t | inr s ↦ standard_other m (and_parts _ _ s).0 ]

pub epoch_other : (c : CalendarName) (e : Bytes) → is_epoch c e ≡ true → begins_with_digit e ≡ false
epoch_other gregorian e h = rw (same_word (codes "BCE") e h) refl
epoch_other julian e h = rw (same_word (codes "BCE") e h) refl
epoch_other french_r e h = absurd (false≢true h)
epoch_other hebrew e h = absurd (false≢true h)
epoch_other (extension tag) e h = elim (or_cases _ _ h) [ inl b ↦ rw (same_word (codes "BCE") e b) refl | inr t ↦ tag_other e t ]

pub calendar_other : (c : CalendarName) → is_calendar c ≡ true → begins_with_digit (calendar_word c) ≡ false
calendar_other gregorian h = refl
calendar_other julian h = refl
calendar_other french_r h = refl
calendar_other hebrew h = refl
calendar_other (extension tag) h = tag_other tag h

-- Dates.

-- a day of the month stays one
pub day_stays : (c : CalendarName) (m old new : Bytes) → Shorter old new → is_day c m old ≡ true → is_day c m new ≡ true
day_stays c m old new h d =
    let p = and_parts (is_integer old) _ d in
    let s = integer_stays old new h p.0 in
    and_from (is_integer new) _ s.integer
    (subst (λ n. (nat_le 1 n && option_map_or (λ greatest. nat_le n greatest) (greatest_day c m) true) ≡ true) (sym s.same) p.1)

-- a date's words behind its day and month
abbrev Ending : Option Bytes → List Bytes → Type 0
Ending epoch new = (year : Bytes) × (is_integer year ≡ true) × (new ≡ year ∷ option_to_list epoch)

epoch_shorter : (c : CalendarName) (epoch : Option Bytes) (new : List Bytes) → option_map_or (is_epoch c) epoch true ≡ true → EachShorter (option_to_list epoch) new → new ≡ option_to_list epoch
epoch_shorter c None new e h = h
epoch_shorter c (Some b) new e h = rw (h.2, h.4, other_stays b h.0 h.3 (epoch_other c b e)) refl

year_shorter : (c : CalendarName) (year : Bytes) (epoch : Option Bytes) (new : List Bytes) → is_integer year ≡ true → option_map_or (is_epoch c) epoch true ≡ true → EachShorter (year ∷ option_to_list epoch) new → Ending epoch new
year_shorter c year epoch new i e h = (h.0, (integer_stays year h.0 h.3 i).integer, h.2 ∙ ap (λ x. h.0 ∷ x) (epoch_shorter c epoch h.1 e h.4))

month_shorter : (c : CalendarName) (m : Bytes) (tail new : List Bytes) → is_month c m ≡ true → EachShorter (m ∷ tail) new → (rest : List Bytes) × (new ≡ m ∷ rest) × EachShorter tail rest
month_shorter c m tail new i h = (h.1, h.2 ∙ ap (λ x. x ∷ h.1) (other_stays m h.0 h.3 (month_other c m i)), h.4)

abbrev Beginning : CalendarName → Option Bytes → List Bytes → List Bytes → Type 0
Beginning c month tail new = (day : Option Bytes) × (rest : List Bytes) × (is_day_and_month c day month ≡ true) × (new ≡ option_to_list day ++ (option_to_list month ++ rest)) × EachShorter tail rest

day_shorter : (c : CalendarName) (day month : Option Bytes) (tail new : List Bytes) → is_day_and_month c day month ≡ true → EachShorter (option_to_list day ++ (option_to_list month ++ tail)) new → Beginning c month tail new
day_shorter c None None tail new dm h = (None, new, dm, refl, h)
day_shorter c None (Some m) tail new dm h = let r = month_shorter c m tail new (and_parts (is_month c m) _ dm).0 h in (None, r.0, dm, r.1, r.2)
day_shorter c (Some d) None tail new dm h = absurd (false≢true dm)
day_shorter c (Some d) (Some m) tail new dm h =
    let p = and_parts (is_month c m) _ dm in
    let r = month_shorter c m tail h.1 p.0 h.4 in
    (Some h.0, r.0, and_from (is_month c m) _ p.0 (day_stays c m d h.0 h.3 p.1), h.2 ∙ ap (λ x. h.0 ∷ x) r.1, r.2)

body_shorter : (d : DateParts) (new : List Bytes) → is_date d ≡ true → EachShorter (date_words d) new → (e : DateParts) × (e.calendar ≡ d.calendar) × (is_date e ≡ true) × (new ≡ date_words e)
body_shorter d new v h =
    let i = valid d v in
    let b = day_shorter d.calendar d.day d.month (d.year ∷ option_to_list d.epoch) new i.days h in
    let y = year_shorter d.calendar d.year d.epoch b.1 i.year i.epoch b.4 in (
      record { calendar = d.calendar; day = b.0; month = d.month; year = y.0; epoch = d.epoch },
      refl,
      and_from (is_calendar d.calendar) _ i.calendar (and_from (is_day_and_month d.calendar b.0 d.month) _ b.2 (and_from (is_integer y.0) _ y.1 i.epoch)),
      b.3 ∙ ap (λ x. option_to_list b.0 ++ (option_to_list d.month ++ x)) y.2,
    )

pub date_shorter : (d : DateParts) (old new : List Bytes) → SpellsDate d old → EachShorter old new → (e : DateParts) × SpellsDate e new
date_shorter d old new s h = elim s.1 [
  | inl n ↦
      let r = subst (λ x. EachShorter x new) n h in
      let b = body_shorter d r.1 s.0 r.4 in
      let k = other_stays (calendar_word d.calendar) r.0 r.3 (calendar_other d.calendar (valid d s.0).calendar) ∙ ap calendar_word (sym b.1) in
      (b.0, (b.2, inl (r.2 ∙ ap (λ x. x ∷ r.1) k ∙ ap (λ x. calendar_word b.0.calendar ∷ x) b.3)))
  | inr n ↦
      let b = body_shorter d new s.0 (subst (λ x. EachShorter x new) n.1 h) in
      (b.0, (b.2, inr (b.1 ∙ n.0, b.3)))
]

-- Periods and date values.

behind_shorter : (k : Bytes) → begins_with_digit k ≡ false → (d : DateParts) (old new : List Bytes) → Behind k d old → EachShorter old new → (e : DateParts) × Behind k e new
behind_shorter k n d old new s h =
    let r = subst (λ x. EachShorter x new) s.2 h in
    let b = date_shorter d s.0 r.1 s.1 r.4 in
    (b.0, (r.1, b.1, r.2 ∙ ap (λ x. x ∷ r.1) (other_stays k r.0 r.3 n)))

both_shorter : (k l : Bytes) → begins_with_digit k ≡ false → begins_with_digit l ≡ false → (d f : DateParts) (old new : List Bytes) → BothBehind k d l f old → EachShorter old new → (e : DateParts) × (g : DateParts) × BothBehind k e l g new
both_shorter k l n m d f old new s h =
    let r = subst (λ x. EachShorter x new) s.4 h in
    let p = each_of_both s.0 (l ∷ s.1) r.1 r.4 in
    let a = date_shorter d s.0 p.0 s.2 p.3 in
    let b = date_shorter f s.1 p.4.1 s.3 p.4.4 in (
      a.0,
      b.0,
      (
        p.0,
        p.4.1,
        a.1,
        b.1,
        r.2 ∙ ap (λ x. x ∷ r.1) (other_stays k r.0 r.3 n) ∙ ap (λ x. k ∷ x) (p.2 ∙ ap (λ x. p.0 ++ x) (p.4.2 ∙ ap (λ x. x ∷ p.4.1) (other_stays l p.4.0 p.4.3 m))),
      ),
    )

pub period_shorter : (p : PeriodParts) (old new : List Bytes) → SpellsPeriod p old → EachShorter old new → (q : PeriodParts) × SpellsPeriod q new
period_shorter empty old new s h = let r = subst (λ x. EachShorter x new) s h in (empty, rw (r.2, r.4, other_stays [] r.0 r.3 refl) refl)
period_shorter (to d) old new s h = let r = behind_shorter (codes "TO") refl d old new s h in (to r.0, r.1)
period_shorter (from d) old new s h = let r = behind_shorter (codes "FROM") refl d old new s h in (from r.0, r.1)
period_shorter (from_to d f) old new s h = let r = both_shorter (codes "FROM") (codes "TO") refl refl d f old new s h in (from_to r.0 r.1, r.2)

pub value_shorter : (v : ValueParts) (old new : List Bytes) → SpellsValue v old → EachShorter old new → (u : ValueParts) × SpellsValue u new
value_shorter (span p) old new s h = let r = period_shorter p old new s h in (span r.0, r.1)
value_shorter (plain d) old new s h = let r = date_shorter d old new s h in (plain r.0, r.1)
value_shorter (between d f) old new s h = let r = both_shorter (codes "BET") (codes "AND") refl refl d f old new s h in (between r.0 r.1, r.2)
value_shorter (after d) old new s h = let r = behind_shorter (codes "AFT") refl d old new s h in (after r.0, r.1)
value_shorter (before d) old new s h = let r = behind_shorter (codes "BEF") refl d old new s h in (before r.0, r.1)
value_shorter (about d) old new s h = let r = behind_shorter (codes "ABT") refl d old new s h in (about r.0, r.1)
value_shorter (calculated d) old new s h = let r = behind_shorter (codes "CAL") refl d old new s h in (calculated r.0, r.1)
value_shorter (estimated d) old new s h = let r = behind_shorter (codes "EST") refl d old new s h in (estimated r.0, r.1)

-- Exact dates.

pub exact_shorter : (e : ExactParts) (old new : List Bytes) → SpellsExact e old → EachShorter old new → (f : ExactParts) × SpellsExact f new
exact_shorter e old new s h =
    let p = and_parts (is_month gregorian e.month) _ s.0 in
    let q = and_parts (is_day gregorian e.month e.day) _ p.1 in
    let day = subst (λ x. EachShorter x new) s.1 h in
    let month = day.4 in
    let year = month.4 in
    let same_month = other_stays e.month month.0 month.3 (month_other gregorian e.month p.0) in (
      record { day = day.0; month = e.month; year = year.0 },
      (
        and_from (is_month gregorian e.month) _ p.0
            (and_from (is_day gregorian e.month day.0) _ (day_stays gregorian e.month e.day day.0 day.3 q.0) (integer_stays e.year year.0 year.3 q.1).integer),
        cc (day.2, month.2, year.2, year.4, same_month),
      ),
    )
