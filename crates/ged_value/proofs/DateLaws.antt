-- What is read as a date is spelled so, and what is spelled so is read.
use Rattle.std.proofs.Common.{◌≡◌, Bool, true, false, not, ◌||◌, ◌⊎◌, inl, inr, cond, List, [], ◌∷◌, ◌++◌, Option, Some, None, is_some, refl, sym, ap, subst, ◌∙◌}
use Rattle.std.specs.Prelude.{codes}
use Rattle.std.specs.List.{list_all}
use Rattle.std.specs.Option.{option_map, option_map_or, option_to_list}
use Rattle.std.specs.Prelude.{option_and_then}
use Rattle.std.specs.Str.{bytes_eq}
use Rattle.std.proofs.lemmas.Bool.{and_right, or_cases, false≢true, false_from_ne_true}
use Rattle.std.proofs.lemmas.Bool.Decides.{Decides-eqb, same_from_decides}
use Rattle.std.proofs.lemmas.Slice.Eq.{bytes_eq-Decides}
use Rattle.ged_value.specs.Words.{Bytes, is_integer, is_extension_tag, is_one_of}
use Rattle.ged_value.specs.Dates.{CalendarName, gregorian, julian, french_r, hebrew, extension, DateParts, calendar_word, roman_days, is_month, is_epoch, is_calendar, is_day_and_month, is_date, date_words, SpellsDate}
use Rattle.ged_value.specs.inner.Months.{calendar_words, months_of_31, months_of_30}
use Rattle.ged_value.specs.inner.DateReading.{standard_calendar, or_extension, calendar_at, parts_at, parts_behind, if_date, date_at}
use Rattle.ged_value.proofs.WordLaws.{both}

-- a test that holds of one text and not of the other tells them apart
pub apart : (P : Bytes → Bool) (w k : Bytes) → P w ≡ true → P k ≡ false → bytes_eq w k ≡ false
apart P w k passes fails = false_from_ne_true _ (λ h. false≢true (sym fails ∙ subst (λ x. P x ≡ true) ((bytes_eq-Decides w k).0 h) passes))

pub apart_back : (P : Bytes → Bool) (w k : Bytes) → P w ≡ true → P k ≡ false → bytes_eq k w ≡ false
apart_back P w k passes fails = false_from_ne_true _ (λ h. false≢true (sym fails ∙ subst (λ x. P x ≡ true) (sym ((bytes_eq-Decides k w).0 h)) passes))

pub nots : (b : Bool) → not b ≡ true → b ≡ false
nots true h = cc
nots false h = refl

-- what passes a test that no word of the table passes isn't in the table
pub none_such : (P : Bytes → Bool) (ws : List Bytes) (w : Bytes) → P w ≡ true → list_all (λ x. not (P x)) ws ≡ true → is_one_of ws w ≡ false
none_such P [] w passes h = refl
none_such P (x ∷ xs) w passes h =
    let parts = both _ _ h in
    rw (apart_back P w x passes (nots _ parts.0)) (none_such P xs w passes parts.1)

pub tag_first : (w : Bytes) → is_extension_tag w ≡ true → (cs : Bytes) × (w ≡ 95 ∷ cs)
tag_first [] h = absurd (false≢true h)
tag_first (c ∷ cs) h = (cs, ap (λ x. x ∷ cs) ((Decides-eqb c 95).0 (both _ _ (both _ _ h).0).0))

pub tag_no_integer : (w : Bytes) → is_extension_tag w ≡ true → is_integer w ≡ false
tag_no_integer w h = let f = tag_first w h in rw f.1 (and_right _ _ refl)

pub integer_no_tag : (w : Bytes) → is_integer w ≡ true → is_extension_tag w ≡ false
integer_no_tag w h = false_from_ne_true _ (λ t. false≢true (sym (tag_no_integer w t) ∙ h))

pub same_word : (k w : Bytes) → bytes_eq k w ≡ true → w ≡ k
same_word k w h = sym ((bytes_eq-Decides k w).0 h)

pub epoch_no_integer : (c : CalendarName) (e : Bytes) → is_epoch c e ≡ true → is_integer e ≡ false
epoch_no_integer gregorian e h = rw (same_word (codes "BCE") e h) refl
epoch_no_integer julian e h = rw (same_word (codes "BCE") e h) refl
epoch_no_integer french_r e h = absurd (false≢true h)
epoch_no_integer hebrew e h = absurd (false≢true h)
epoch_no_integer (extension tag) e h = elim (or_cases _ _ h) [ inl b ↦ rw (same_word (codes "BCE") e b) refl | inr t ↦ tag_no_integer e t ]

-- no calendar is named
no_calendar : (P : Bytes → Bool) (w : Bytes) → P w ≡ true → is_extension_tag w ≡ false → P (codes "GREGORIAN") ≡ false → P (codes "JULIAN") ≡ false → P (codes "FRENCH_R") ≡ false → P (codes "HEBREW") ≡ false → calendar_at w ≡ None
no_calendar P w passes tag g j f h =
    rw (apart P w (codes "GREGORIAN") passes g, apart P w (codes "JULIAN") passes j, apart P w (codes "FRENCH_R") passes f, apart P w (codes "HEBREW") passes h, tag) refl

pub integer_no_calendar : (w : Bytes) → is_integer w ≡ true → calendar_at w ≡ None
integer_no_calendar w h = no_calendar is_integer w h (integer_no_tag w h) refl refl refl refl

-- no month of the Gregorian calendar passes a test that no word of its tables passes
pub roman_none : (P : Bytes → Bool) (m : Bytes) → P m ≡ true → list_all (λ x. not (P x)) months_of_31 ≡ true → list_all (λ x. not (P x)) months_of_30 ≡ true → P (codes "FEB") ≡ false → roman_days m ≡ None
roman_none P m passes a b c =
    rw (none_such P months_of_31 m passes a, none_such P months_of_30 m passes b, apart_back P m (codes "FEB") passes c) refl

month_no_tag : (m : Bytes) → is_some (roman_days m) ≡ true → is_extension_tag m ≡ false
month_no_tag m h = false_from_ne_true _ (λ t. false≢true (sym (ap is_some (roman_none is_extension_tag m t refl refl refl)) ∙ h))

pub month_no_calendar : (m : Bytes) → is_some (roman_days m) ≡ true → calendar_at m ≡ None
month_no_calendar m h = no_calendar (λ x. is_some (roman_days x)) m h (month_no_tag m h) refl refl refl refl

pub calendar_again : (c : CalendarName) → is_calendar c ≡ true → calendar_at (calendar_word c) ≡ Some c
calendar_again gregorian h = refl
calendar_again julian h = refl
calendar_again french_r h = refl
calendar_again hebrew h = refl
calendar_again (extension tag) h =
    rw (apart is_extension_tag tag (codes "GREGORIAN") h refl, apart is_extension_tag tag (codes "JULIAN") h refl, apart is_extension_tag tag (codes "FRENCH_R") h refl, apart is_extension_tag tag (codes "HEBREW") h refl, h) refl

parts_again : (c : CalendarName) (day month : Option Bytes) (year : Bytes) (epoch : Option Bytes) → is_day_and_month c day month ≡ true → is_integer year ≡ true → option_map_or (is_epoch c) epoch true ≡ true
    → parts_at c (option_to_list day ++ (option_to_list month ++ (year ∷ option_to_list epoch))) ≡ Some (record { calendar = c; day = day; month = month; year = year; epoch = epoch })
parts_again c None None y None dm i e = refl
parts_again c None None y (Some b) dm i e = rw (epoch_no_integer c b e) refl
parts_again c None (Some m) y None dm i e = rw i refl
parts_again c None (Some m) y (Some b) dm i e = rw (epoch_no_integer c b e) refl
parts_again c (Some d) None y e dm i h = absurd (false≢true dm)
parts_again c (Some d) (Some m) y None dm i e = rw i refl
parts_again c (Some d) (Some m) y (Some b) dm i e = refl

-- the parts of `is_date`
pub record Valid (d : DateParts) : Type 0 where
  pub calendar : is_calendar d.calendar ≡ true
  pub days : is_day_and_month d.calendar d.day d.month ≡ true
  pub year : is_integer d.year ≡ true
  pub epoch : option_map_or (is_epoch d.calendar) d.epoch true ≡ true

pub valid : (d : DateParts) → is_date d ≡ true → Valid d
valid d h =
    let a = both _ _ h in
    let b = both _ _ a.1 in
    let c = both _ _ b.1 in
    record { calendar = a.0; days = b.0; year = c.0; epoch = c.1 }

first_none : (c : CalendarName) (day month : Option Bytes) (year : Bytes) (epoch : Option Bytes) → c ≡ gregorian → is_day_and_month c day month ≡ true → is_integer year ≡ true
    → (w : Bytes) × (ws : List Bytes) × ((option_to_list day ++ (option_to_list month ++ (year ∷ option_to_list epoch))) ≡ w ∷ ws) × (calendar_at w ≡ None)
first_none c None None y e g dm i = (y, option_to_list e, refl, integer_no_calendar y i)
first_none c None (Some m) y e g dm i = (m, y ∷ option_to_list e, refl, month_no_calendar m (subst (λ k. is_month k m ≡ true) g (both (is_month c m) _ dm).0))
first_none c (Some d) None y e g dm i = absurd (false≢true dm)
first_none c (Some d) (Some m) y e g dm i = (d, m ∷ y ∷ option_to_list e, refl, integer_no_calendar d (both _ _ (both _ _ dm).1).0)

pub date_again : (d : DateParts) (ws : List Bytes) → SpellsDate d ws → date_at ws ≡ Some d
date_again d ws h =
    let v = valid d h.0 in
    let parts = parts_again d.calendar d.day d.month d.year d.epoch v.days v.year v.epoch in
    elim h.1 [
      | inl e ↦ rw (e, calendar_again d.calendar v.calendar, parts, h.0) refl
      | inr e ↦
          let f = first_none d.calendar d.day d.month d.year d.epoch e.0 v.days v.year in
          let parts_g : parts_at gregorian (f.0 ∷ f.1) ≡ Some d = subst (λ ws. parts_at gregorian ws ≡ Some d) f.2 (subst (λ c. parts_at c (date_words d) ≡ Some d) e.0 parts) in
          rw (e.1, f.2, f.3, parts_g, h.0) refl
    ]

chosen : (b : Bool) (x y : DateParts) (d : DateParts) → cond b (Some x) (Some y) ≡ Some d → (x ≡ d) ⊎ (y ≡ d)
chosen true x y d h = inl cc
chosen false x y d h = inr cc

abbrev Arranged : CalendarName → List Bytes → DateParts → Type 0
Arranged c ws d = (d.calendar ≡ c) × (ws ≡ date_words d)

of_same : (c : CalendarName) (ws : List Bytes) (x d : DateParts) → x ≡ d → Arranged c ws x → Arranged c ws d
of_same c ws x d e h = subst (λ y. Arranged c ws y) e h

pub some_same : {A : Type 0} (x y : A) → ◌≡◌ {A = Option A} (Some x) (Some y) → x ≡ y
some_same x y h = cc

parts_found : (c : CalendarName) (ws : List Bytes) (d : DateParts) → parts_at c ws ≡ Some d → Arranged c ws d
parts_found c [] d h = absurd (cc)
parts_found c (y ∷ []) d h = of_same c _ _ d (some_same _ _ h) (refl, refl)
parts_found c (m ∷ y ∷ []) d h = elim (chosen _ _ _ _ h) [ inl e ↦ of_same c _ _ d e (refl, refl) | inr e ↦ of_same c _ _ d e (refl, refl) ]
parts_found c (b ∷ m ∷ y ∷ []) d h = elim (chosen _ _ _ _ h) [ inl e ↦ of_same c _ _ d e (refl, refl) | inr e ↦ of_same c _ _ d e (refl, refl) ]
parts_found c (b ∷ m ∷ y ∷ e ∷ []) d h = of_same c _ _ d (some_same _ _ h) (refl, refl)
parts_found c (b ∷ m ∷ y ∷ e ∷ f ∷ ws) d h = absurd (cc)

named : (b : Bool) (c d : CalendarName) (o : Option CalendarName) (P : CalendarName → Type 0) → cond b (Some c) o ≡ Some d → (b ≡ true → P c) → (o ≡ Some d → P d) → P d
named true c d o P h f g = let e : c ≡ d = cc in subst P e (f refl)
named false c d o P h f g = g h

none_some : (w : Bytes) (c : CalendarName) → ◌≡◌ {A = Option CalendarName} None (Some c) → w ≡ calendar_word c
none_some w c h = cc

word_same : (w k : Bytes) → bytes_eq w k ≡ true → w ≡ k
word_same w k h = (bytes_eq-Decides w k).0 h

standard_found : (w : Bytes) (c : CalendarName) → standard_calendar w ≡ Some c → w ≡ calendar_word c
standard_found w c h =
    let P : CalendarName → Type 0 = λ k. w ≡ calendar_word k in
    named _ gregorian c _ P h (word_same w _)
    (λ h1. named _ julian c _ P h1 (word_same w _)
    (λ h2. named _ french_r c _ P h2 (word_same w _)
    (λ h3. named _ hebrew c None P h3 (word_same w _) (none_some w c))))

or_found : (o : Option CalendarName) (w : Bytes) (c : CalendarName) → standard_calendar w ≡ o → or_extension o w ≡ Some c → w ≡ calendar_word c
or_found (Some k) w c s h = standard_found w c (s ∙ h)
or_found None w c s h = named _ (extension w) c None (λ k. w ≡ calendar_word k) h (λ t. refl) (none_some w c)

pub calendar_found : (w : Bytes) (c : CalendarName) → calendar_at w ≡ Some c → w ≡ calendar_word c
calendar_found w c h = or_found (standard_calendar w) w c refl h

one_of_four : (a b c d : Bool)
    → is_some (cond {A = Option CalendarName} a (Some gregorian) (cond b (Some julian) (cond c (Some french_r) (cond d (Some hebrew) None)))) ≡ (a || (b || (c || (d || false))))
one_of_four true b c d = refl
one_of_four false true c d = refl
one_of_four false false true d = refl
one_of_four false false false true = refl
one_of_four false false false false = refl

-- the other way round
flipped : (w k : Bytes) → bytes_eq w k ≡ bytes_eq k w
flipped w k =
    let back = bytes_eq-Decides k w in
    same_from_decides (bytes_eq w k) (bytes_eq k w) (bytes_eq-Decides w k) (λ t. sym (back.0 t), λ e. back.1 (sym e))

-- a word that names a calendar of the standard is one of these words
pub standard_is_listed : (w : Bytes) → is_some (standard_calendar w) ≡ is_one_of calendar_words w
standard_is_listed w =
    rw (flipped w (codes "GREGORIAN"), flipped w (codes "JULIAN"), flipped w (codes "FRENCH_R"), flipped w (codes "HEBREW"))
    (one_of_four _ _ _ _)

go : (b : Bool) (x d : DateParts) → is_date x ≡ b → cond b (Some x) None ≡ Some d → (Some x ≡ Some d) × (is_date d ≡ true)
go true x d e h = (h, subst (λ y. is_date y ≡ true) (some_same _ _ h) e)
go false x d e h = absurd cc

checked : (o : Option DateParts) (d : DateParts) → option_and_then if_date o ≡ Some d → (o ≡ Some d) × (is_date d ≡ true)
checked None d h = absurd cc
checked (Some x) d h = go (is_date x) x d refl h

behind_found : (o : Option CalendarName) (w : Bytes) (ws : List Bytes) (d : DateParts) → calendar_at w ≡ o → parts_behind o w ws ≡ Some d
    → ((w ∷ ws) ≡ calendar_word d.calendar ∷ date_words d) ⊎ ((d.calendar ≡ gregorian) × ((w ∷ ws) ≡ date_words d))
behind_found None w ws d e h = inr (parts_found gregorian (w ∷ ws) d h)
behind_found (Some c) w ws d e h =
    let f = parts_found c ws d h in
    let k = calendar_found w c e in
    inl (rw (k, f.1, f.0) refl)

pub date_found : (d : DateParts) (ws : List Bytes) → date_at ws ≡ Some d → SpellsDate d ws
date_found d [] h = absurd cc
date_found d (w ∷ ws) h =
    let k = checked (parts_behind (calendar_at w) w ws) d h in
    (k.1, behind_found (calendar_at w) w ws d refl k.0)

-- a view of an option has a value where the option has one
is_some-option_map : {X Y : Type 0} (view : X → Y) (o : Option X) → is_some (option_map view o) ≡ is_some o
is_some-option_map view None = refl
is_some-option_map view (Some x) = refl

pub calendar_is_listed : {X : Type 0} (view : X → CalendarName) (o : Option X) (w : Bytes) → option_map view o ≡ standard_calendar w → is_some o ≡ is_one_of calendar_words w
calendar_is_listed view o w e = sym (is_some-option_map view o) ∙ ap is_some e ∙ standard_is_listed w
