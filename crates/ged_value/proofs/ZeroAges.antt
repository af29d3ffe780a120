-- Words without some of their leading zeros spell an age again, and the trimmed words its trimmed parts.
use Rattle.std.proofs.Common.{◌≡◌, ℕ, Bool, true, false, ◌<◌, inl, inr, List, [], ◌∷◌, ◌++◌, length, map, Option, Some, None, refl, sym, ap, subst, ◌∙◌}
use Rattle.std.specs.Prelude.{codes, ◌==◌, cond}
use Rattle.std.specs.Option.{option_map}
use Rattle.std.specs.Char.{is_ascii_digit}
use Rattle.std.proofs.lemmas.Bool.{and_parts, and_right, false≢true}
use Rattle.std.proofs.lemmas.List.{map-append, length-map}
use Rattle.ged_value.specs.Words.{Bytes, is_integer, words_of, joined}
use Rattle.ged_value.specs.Zeros.{has_leading_zero, trim_zeros, trimmed_words}
use Rattle.ged_value.specs.ZeroParts.{trimmed_age}
use Rattle.ged_value.specs.Ages.{Sign, less, greater, AgeParts, sign_words, unit_words, duration_words, IsNumber, HasNumbers, AgeText}
use Rattle.ged_value.specs.inner.AgeReading.{no_age}
use Rattle.ged_value.proofs.WordLaws.{integer_digits}
use Rattle.ged_value.proofs.TextLaws.{Plainly, words_same}
use Rattle.ged_value.proofs.AgeLaws.{age_plainly}
use Rattle.ged_value.proofs.ZeroWords.{Shorter, integer_from, integer_trims, other_stays, trimmed_stays}
use Rattle.ged_value.proofs.ZeroLists.{EachShorter, each_of_both, each_length}

-- a number that a letter follows
abbrev NumberBefore : ℕ → Bytes → Type 0
NumberBefore letter new = (digits : Bytes) × (is_integer digits ≡ true) × (new ≡ digits ++ (letter ∷ []))

number_shorter : (letter : ℕ) (digits new : Bytes) → is_ascii_digit letter ≡ false → is_integer digits ≡ true → Shorter (digits ++ (letter ∷ [])) new → NumberBefore letter new
number_shorter letter [] new n i h = absurd (false≢true i)
number_shorter letter (b ∷ []) new n i (inl same) = (b ∷ [], i, same)
number_shorter letter (b ∷ []) new n i (inr (e, h)) = absurd (false≢true (sym n ∙ (and_parts _ _ e).1))
number_shorter letter (b ∷ d ∷ ds) new n i (inl same) = (b ∷ d ∷ ds, i, same)
number_shorter letter (b ∷ d ∷ ds) new n i (inr (e, h)) =
    number_shorter letter (d ∷ ds) new n (integer_from (d ∷ ds) (and_parts _ _ e).1 (and_parts (is_ascii_digit b) _ (integer_digits (b ∷ d ∷ ds) i)).1) h

unit_shorter : (letter : ℕ) (part : Option Bytes) (new : List Bytes) → is_ascii_digit letter ≡ false → IsNumber part → EachShorter (unit_words letter part) new
    → (p : Option Bytes) × IsNumber p × (new ≡ unit_words letter p)
unit_shorter letter None new n i h = (None, tt, h)
unit_shorter letter (Some digits) new n i h =
    let d = number_shorter letter digits h.0 n i h.3 in
    (Some d.0, d.1, cc (h.2, h.4, d.2))

sign_shorter : (bound : Option Sign) (new : List Bytes) → EachShorter (sign_words bound) new → new ≡ sign_words bound
sign_shorter None new h = h
sign_shorter (Some less) new h = rw (h.2, h.4, other_stays (codes "<") h.0 h.3 refl) refl
sign_shorter (Some greater) new h = rw (h.2, h.4, other_stays (codes ">") h.0 h.3 refl) refl

-- the parts of an age, each a number
abbrev Duration : Option Sign → List Bytes → Type 0
Duration bound new = (a : AgeParts) × (a.bound ≡ bound) × HasNumbers a × (new ≡ duration_words a)

duration_shorter : (a : AgeParts) (new : List Bytes) → HasNumbers a → EachShorter (duration_words a) new → Duration a.bound new
duration_shorter a new i h =
    let y = each_of_both (unit_words 121 a.years) _ new h in
    let m = each_of_both (unit_words 109 a.months) _ y.1 y.4 in
    let w = each_of_both (unit_words 119 a.weeks) (unit_words 100 a.days) m.1 m.4 in
    let years = unit_shorter 121 a.years y.0 refl i.0 y.3 in
    let months = unit_shorter 109 a.months m.0 refl i.1 m.3 in
    let weeks = unit_shorter 119 a.weeks w.0 refl i.2 w.3 in
    let days = unit_shorter 100 a.days w.1 refl i.3 w.4 in (
      record { bound = a.bound; years = years.0; months = months.0; weeks = weeks.0; days = days.0 },
      refl,
      (years.1, months.1, weeks.1, days.1),
      cc (y.2, m.2, w.2, years.2, months.2, weeks.2, days.2),
    )

-- the words are those of a text that spells an age
abbrev AgeWords : List Bytes → Type 0
AgeWords new = (words_of (joined new) ≡ new) × ((a : AgeParts) × AgeText a (joined new))

empty_shorter : (text : Bytes) (new : List Bytes) → text ≡ [] → EachShorter (words_of text) new → AgeWords new
empty_shorter text new e h =
    let r = subst (λ t. EachShorter (words_of t) new) e h in
    let same : new ≡ [] ∷ [] = cc (r.2, r.4, other_stays [] r.0 r.3 refl) in
    subst AgeWords (sym same) (refl, (no_age, inl (refl, refl)))

pub age_shorter : (text : Bytes) (age : AgeParts) (new : List Bytes) → AgeText age text → EachShorter (words_of text) new → AgeWords new
age_shorter text a new is h = elim is [
  | inl n ↦ empty_shorter text new n.1 h
  | inr s ↦
      let same = words_same (sign_words a.bound ++ duration_words a) text (age_plainly a s.0 s.1) s.2 in
      let both = each_of_both (sign_words a.bound) (duration_words a) new (subst (λ ws. EachShorter ws new) same h) in
      let d = duration_shorter a both.1 s.0 both.4 in
      let some : 0 < length (duration_words d.0) = subst (λ n. 0 < n) (sym (each_length (duration_words a) both.1 both.4) ∙ ap length d.3) s.1 in
      let words : new ≡ sign_words d.0.bound ++ duration_words d.0 = cc (both.2, sign_shorter a.bound both.0 both.3, d.3, d.1) in
      subst AgeWords (sym words) (words_same _ _ (age_plainly d.0 d.2 some) refl, (d.0, inr (d.2, some, refl)))
]

-- The trimmed words.

trim_step : (letter b : ℕ) (bs : Bytes) (leads : Bool) (long short : Bytes) → (leads ≡ true → long ≡ short ++ (letter ∷ [])) → cond leads long (b ∷ (bs ++ (letter ∷ []))) ≡ cond leads short (b ∷ bs) ++ (letter ∷ [])
trim_step letter b bs true long short h = h refl
trim_step letter b bs false long short h = refl

number_trims : (letter : ℕ) (digits : Bytes) → is_ascii_digit letter ≡ false → is_integer digits ≡ true → trim_zeros (digits ++ (letter ∷ [])) ≡ trim_zeros digits ++ (letter ∷ [])
number_trims letter [] n i = absurd (false≢true i)
number_trims letter (b ∷ []) n i =
    trimmed_stays (b ∷ letter ∷ []) (and_right (b == 48) (is_ascii_digit letter) n) ∙ ap (λ x. x ++ (letter ∷ [])) (sym (trimmed_stays (b ∷ []) (and_right (b == 48) false refl)))
number_trims letter (b ∷ d ∷ ds) n i =
    trim_step letter b (d ∷ ds) (has_leading_zero (b ∷ d ∷ ds)) _ _
    (λ e. number_trims letter (d ∷ ds) n (integer_from (d ∷ ds) (and_parts _ _ e).1 (and_parts (is_ascii_digit b) _ (integer_digits (b ∷ d ∷ ds) i)).1))

unit_trims : (letter : ℕ) (part : Option Bytes) → is_ascii_digit letter ≡ false → IsNumber part → map trim_zeros (unit_words letter part) ≡ unit_words letter (option_map trim_zeros part)
unit_trims letter None n i = refl
unit_trims letter (Some digits) n i = ap (λ x. x ∷ []) (number_trims letter digits n i)

part_trims : (part : Option Bytes) → IsNumber part → IsNumber (option_map trim_zeros part)
part_trims None i = tt
part_trims (Some digits) i = (integer_trims digits i).integer

sign_trims : (bound : Option Sign) → map trim_zeros (sign_words bound) ≡ sign_words bound
sign_trims None = refl
sign_trims (Some less) = refl
sign_trims (Some greater) = refl

duration_trims : (a : AgeParts) → HasNumbers a → map trim_zeros (duration_words a) ≡ duration_words (trimmed_age a)
duration_trims a i =
    let y = unit_words 121 a.years in
    let m = unit_words 109 a.months in
    let w = unit_words 119 a.weeks in
    let d = unit_words 100 a.days in
    cc (
      map-append trim_zeros y (m ++ (w ++ d)),
      map-append trim_zeros m (w ++ d),
      map-append trim_zeros w d,
      unit_trims 121 a.years refl i.0,
      unit_trims 109 a.months refl i.1,
      unit_trims 119 a.weeks refl i.2,
      unit_trims 100 a.days refl i.3,
    )

pub age_trimmed : (text : Bytes) (age : AgeParts) → AgeText age text → (words_of (joined (trimmed_words text)) ≡ trimmed_words text) × AgeText (trimmed_age age) (joined (trimmed_words text))
age_trimmed text a is = elim is [
  | inl n ↦ rw (n.0, n.1) (refl, inl (refl, refl))
  | inr s ↦
      let b = trimmed_age a in
      let numbers : HasNumbers b = (part_trims a.years (s.0).0, part_trims a.months (s.0).1, part_trims a.weeks (s.0).2, part_trims a.days (s.0).3) in
      let some : 0 < length (duration_words b) = subst (λ n. 0 < n) (sym (length-map (duration_words a) trim_zeros) ∙ ap length (duration_trims a s.0)) s.1 in
      let words : trimmed_words text ≡ sign_words b.bound ++ duration_words b =
      ap (map trim_zeros) (words_same (sign_words a.bound ++ duration_words a) text (age_plainly a s.0 s.1) s.2)
      ∙ map-append trim_zeros (sign_words a.bound) (duration_words a) ∙ ap (λ x. x ++ map trim_zeros (duration_words a)) (sign_trims a.bound)
      ∙ ap (λ x. sign_words a.bound ++ x) (duration_trims a s.0) in
      (words_same (trimmed_words text) _ (subst Plainly (sym words) (age_plainly b numbers some)) refl, inr (numbers, some, ap joined words))
]
