-- Words that stand in no date.
use Rattle.std.proofs.Common.{◌≡◌, ℕ, ◌≤◌, ◌<◌, Bool, true, false, not, ◌&&◌, inl, inr, List, [], ◌∷◌, ◌++◌, length, get_or, lit<, Option, Some, None, is_some, refl, sym, ap, subst, ◌∙◌, arith}
use Rattle.std.specs.Prelude.{codes, ◌==◌}
use Rattle.std.specs.List.{list_all, list_any}
use Rattle.std.specs.Char.{is_ascii_digit}
use Rattle.std.specs.Option.{option_map_or, option_to_list}
use Rattle.std.specs.Str.{bytes_eq}
use Rattle.std.proofs.lemmas.Bool.{and_parts, and_from, or_cases, or_from, or_left, false≢true, false_from_ne_true}
use Rattle.std.proofs.lemmas.Bool.Decides.{Decides-eqb}
use Rattle.std.proofs.lemmas.List.Recursion.{and_at}
use Rattle.ged_value.specs.Words.{Bytes, is_integer, is_standard_tag, is_extension_tag, is_tag_character}
use Rattle.ged_value.specs.Dates.{CalendarName, gregorian, julian, french_r, hebrew, extension, DateParts, calendar_word, is_reserved, greatest_day, is_month, is_epoch, is_calendar, is_day_and_month, is_date, date_words, SpellsDate}
use Rattle.ged_value.specs.inner.Months.{calendar_words, months_of_31, months_of_30, french_days, french_months, hebrew_months}
use Rattle.ged_value.proofs.DateLaws.{apart, apart_back, none_such, roman_none, valid, same_word, nots}

abbrev pub Lack : (Bytes → Bool) → List Bytes → Type 0
Lack P ws = list_all (λ w. not (P w)) ws ≡ true

-- a word of a table
listed : (p : Bytes → Bool) (words : List Bytes) (i : ℕ) → i < length words → list_all p words ≡ true → p (get_or words i []) ≡ true
listed p words i within h = and_at (list_all p) p refl (λ _ _. refl) words i [] within h

-- no word behind a date's calendar passes the test
pub record Absent (P : Bytes → Bool) : Type 0 where
  pub long : Lack P months_of_31
  pub short : Lack P months_of_30
  pub feb : P (codes "FEB") ≡ false
  pub french : Lack P french_months
  pub comp : P (codes "COMP") ≡ false
  pub hebrew : Lack P hebrew_months
  pub bce : P (codes "BCE") ≡ false
  pub integers : (w : Bytes) → is_integer w ≡ true → P w ≡ false
  pub tags : (w : Bytes) → is_extension_tag w ≡ true → P w ≡ false
  pub months : (w : Bytes) → (is_standard_tag w && not (is_reserved w)) ≡ true → P w ≡ false

module _ (P : Bytes → Bool) (a : Absent P) where
  ruled_out : (o : Option ℕ) (m : Bytes) → (P m ≡ true → o ≡ None) → is_some o ≡ true → P m ≡ false
  ruled_out o m h s = false_from_ne_true _ (λ t. false≢true (sym (ap is_some (h t)) ∙ s))

  french_none : (m : Bytes) → P m ≡ true → french_days m ≡ None
  french_none m t = rw (none_such P french_months m t a.french, apart_back P m (codes "COMP") t a.comp) refl

  hebrew_none : (m : Bytes) → P m ≡ true → greatest_day hebrew m ≡ None
  hebrew_none m t = rw (none_such P hebrew_months m t a.hebrew) refl

  month_lacks : (c : CalendarName) (m : Bytes) → is_month c m ≡ true → P m ≡ false
  month_lacks gregorian m h = ruled_out _ m (λ t. roman_none P m t a.long a.short a.feb) h
  month_lacks julian m h = ruled_out _ m (λ t. roman_none P m t a.long a.short a.feb) h
  month_lacks french_r m h = ruled_out _ m (french_none m) h
  month_lacks hebrew m h = ruled_out _ m (hebrew_none m) h
  month_lacks (extension tag) m h = elim (or_cases _ _ h) [ inl t ↦ a.tags m t | inr s ↦ a.months m s ]

  epoch_lacks : (c : CalendarName) (e : Bytes) → is_epoch c e ≡ true → P e ≡ false
  epoch_lacks gregorian e h = rw (same_word (codes "BCE") e h) a.bce
  epoch_lacks julian e h = rw (same_word (codes "BCE") e h) a.bce
  epoch_lacks french_r e h = absurd (false≢true h)
  epoch_lacks hebrew e h = absurd (false≢true h)
  epoch_lacks (extension tag) e h = elim (or_cases _ _ h) [ inl b ↦ rw (same_word (codes "BCE") e b) a.bce | inr t ↦ a.tags e t ]

  parts_lack : (c : CalendarName) (day month : Option Bytes) (year : Bytes) (epoch : Option Bytes) → is_day_and_month c day month ≡ true → is_integer year ≡ true → option_map_or (is_epoch c) epoch true ≡ true
      → Lack P (option_to_list day ++ (option_to_list month ++ (year ∷ option_to_list epoch)))
  parts_lack c None None y None dm i e = rw (a.integers y i) refl
  parts_lack c None None y (Some b) dm i e = rw (a.integers y i, epoch_lacks c b e) refl
  parts_lack c None (Some m) y None dm i e = rw (month_lacks c m (and_parts (is_month c m) _ dm).0, a.integers y i) refl
  parts_lack c None (Some m) y (Some b) dm i e = rw (month_lacks c m (and_parts (is_month c m) _ dm).0, a.integers y i, epoch_lacks c b e) refl
  parts_lack c (Some d) None y e dm i h = absurd (false≢true dm)
  parts_lack c (Some d) (Some m) y None dm i e =
      let p = and_parts _ _ dm in rw (a.integers d (and_parts _ _ p.1).0, month_lacks c m p.0, a.integers y i) refl
  parts_lack c (Some d) (Some m) y (Some b) dm i e =
      let p = and_parts _ _ dm in rw (a.integers d (and_parts _ _ p.1).0, month_lacks c m p.0, a.integers y i, epoch_lacks c b e) refl

  pub body_lacks : (d : DateParts) → is_date d ≡ true → Lack P (date_words d)
  body_lacks d h = let v = valid d h in parts_lack d.calendar d.day d.month d.year d.epoch v.days v.year v.epoch

  abbrev n : Bytes → Bool
  n = λ w. not (P w)

  calendar_lacks : (c : CalendarName) → Lack P calendar_words → is_calendar c ≡ true → P (calendar_word c) ≡ false
  calendar_lacks gregorian l h = nots _ (listed n calendar_words 0 (lit< tt) l)
  calendar_lacks julian l h = nots _ (listed n calendar_words 1 (lit< tt) l)
  calendar_lacks french_r l h = nots _ (listed n calendar_words 2 (lit< tt) l)
  calendar_lacks hebrew l h = nots _ (listed n calendar_words 3 (lit< tt) l)
  calendar_lacks (extension tag) l h = a.tags tag h

  pub words_lack : Lack P calendar_words → (d : DateParts) (ws : List Bytes) → SpellsDate d ws → Lack P ws
  words_lack l d ws h = elim h.1 [
    | inl e ↦ rw (e, calendar_lacks d.calendar l (valid d h.0).calendar) (body_lacks d h.0)
    | inr e ↦ rw (e.1) (body_lacks d h.0)
  ]

-- whether a word is none that stands behind a date's calendar
abbrev pub is_foreign : Bytes → Bool
is_foreign k =
    let P : Bytes → Bool = λ w. bytes_eq w k in
    not (is_integer k) && (not (is_extension_tag k) && (not (is_standard_tag k && not (is_reserved k))
    && (list_all (λ w. not (P w)) months_of_31 && (list_all (λ w. not (P w)) months_of_30 && (not (P (codes "FEB"))
    && (list_all (λ w. not (P w)) french_months && (not (P (codes "COMP")) && (list_all (λ w. not (P w)) hebrew_months && not (P (codes "BCE"))))))))))

pub foreign_absent : (k : Bytes) → is_foreign k ≡ true → Absent (λ w. bytes_eq w k)
foreign_absent k h =
    let a = and_parts _ _ h in
    let b = and_parts _ _ a.1 in
    let c = and_parts _ _ b.1 in
    let d = and_parts _ _ c.1 in
    let e = and_parts _ _ d.1 in
    let f = and_parts _ _ e.1 in
    let g = and_parts _ _ f.1 in
    let i = and_parts _ _ g.1 in
    let j = and_parts _ _ i.1 in
    record {
      long = d.0;
      short = e.0;
      feb = nots _ f.0;
      french = g.0;
      comp = nots _ i.0;
      hebrew = j.0;
      bce = nots _ j.1;
      integers = λ w t. apart is_integer w k t (nots _ a.0);
      tags = λ w t. apart is_extension_tag w k t (nots _ b.0);
      months = λ w t. apart (λ x. is_standard_tag x && not (is_reserved x)) w k t (nots _ c.0);
    }

-- no word of a date is a foreign word that names no calendar
pub foreign_lacks : (k : Bytes) → is_foreign k ≡ true → Lack (λ w. bytes_eq w k) calendar_words → (d : DateParts) (ws : List Bytes) → SpellsDate d ws → Lack (λ w. bytes_eq w k) ws
foreign_lacks k f l d ws h = words_lack (λ w. bytes_eq w k) (foreign_absent k f) l d ws h

-- spaces
abbrev pub has_space : Bytes → Bool
has_space w = list_any (λ b. b == 32) w

pub no_space : (p : ℕ → Bool) (w : Bytes) → p 32 ≡ false → list_all p w ≡ true → has_space w ≡ false
no_space p [] f h = refl
no_space p (b ∷ bs) f h =
    let q = and_parts _ _ h in
    or_from _ _ (false_from_ne_true _ (λ t. false≢true (sym f ∙ subst (λ x. p x ≡ true) ((Decides-eqb b 32).0 t) q.0))) (no_space p bs f q.1)

tag_no_space : (w : Bytes) → is_extension_tag w ≡ true → has_space w ≡ false
tag_no_space [] h = refl
tag_no_space (c ∷ cs) h =
    let q = and_parts _ _ h in
    let e : c ≡ 95 = (Decides-eqb c 95).0 (and_parts _ _ q.0).0 in
    rw e (no_space is_tag_character cs refl q.1)

standard_no_space : (w : Bytes) → is_standard_tag w ≡ true → has_space w ≡ false
standard_no_space [] h = refl
standard_no_space (c ∷ cs) h =
    let q = and_parts _ _ h in
    let t : is_tag_character c ≡ true = or_left _ _ (or_left _ _ q.0) in
    no_space is_tag_character (c ∷ cs) refl (and_from _ _ t q.1)

space_absent : Absent has_space
space_absent = record {
  long = refl;
  short = refl;
  feb = refl;
  french = refl;
  comp = refl;
  hebrew = refl;
  bce = refl;
  integers = λ w h. no_space is_ascii_digit w refl (and_parts _ _ h).1;
  tags = tag_no_space;
  months = λ w h. standard_no_space w (and_parts _ _ h).0;
}

pub space_lacks : (d : DateParts) (ws : List Bytes) → SpellsDate d ws → Lack has_space ws
space_lacks d ws h = words_lack has_space space_absent refl d ws h

-- a date has at most five words
parts_few : (c : CalendarName) (day month : Option Bytes) (year : Bytes) (epoch : Option Bytes) → length (option_to_list day ++ (option_to_list month ++ (year ∷ option_to_list epoch))) ≤ 4
parts_few c None None y None = omega arith
parts_few c None None y (Some e) = omega arith
parts_few c None (Some m) y None = omega arith
parts_few c None (Some m) y (Some e) = omega arith
parts_few c (Some d) None y None = omega arith
parts_few c (Some d) None y (Some e) = omega arith
parts_few c (Some d) (Some m) y None = omega arith
parts_few c (Some d) (Some m) y (Some e) = omega arith

pub few_words : (d : DateParts) (ws : List Bytes) → SpellsDate d ws → length ws ≤ 5
few_words d ws h =
    let few = parts_few d.calendar d.day d.month d.year d.epoch in
    elim h.1 [ inl e ↦ rw e (omega (arith, few)) | inr e ↦ rw (e.1) (omega (arith, few)) ]
