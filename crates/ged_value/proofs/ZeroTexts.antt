-- The laws of leading zeros, kind by kind.
use Rattle.std.proofs.Common.{◌≡◌, false, List, [], ◌∷◌, get_or, map, Option, Some, refl, sym, ap, subst, ◌∙◌}
use Rattle.std.specs.Prelude.{filter}
use Rattle.std.specs.List.{All}
use Rattle.std.specs.Char.{is_ascii_digit}
use Rattle.std.proofs.lemmas.List.Elements.{All-map}
use Rattle.ged_value.specs.Words.{Bytes, words_of, joined}
use Rattle.ged_value.specs.Zeros.{begins_with_digit, has_leading_zero, trim_zeros, digit_words, trimmed_words}
use Rattle.ged_value.specs.ZeroParts.{value_integers, trimmed_value, period_integers, trimmed_period, exact_integers, trimmed_exact, age_integers, trimmed_age, IntegerText, integer_alone}
use Rattle.ged_value.specs.ZeroLaws.{LeavingOutZeros}
use Rattle.ged_value.specs.Values.{SpellsPeriod, PeriodText, SpellsValue, DateValueText}
use Rattle.ged_value.specs.inner.ValueReading.{period_at, value_at}
use Rattle.ged_value.specs.Exact.{SpellsExact, ExactText}
use Rattle.ged_value.specs.inner.ExactReading.{exact_at}
use Rattle.ged_value.specs.Ages.{AgeText}
use Rattle.ged_value.proofs.WordLaws.{integer_digits}
use Rattle.ged_value.proofs.AgeLaws.{one_age}
use Rattle.ged_value.proofs.Foreign.{no_space}
use Rattle.ged_value.proofs.ValueLaws.{period_again, value_again}
use Rattle.ged_value.proofs.TextLaws.{Plainly, split_end, words_same, period_plainly, value_plainly}
use Rattle.ged_value.proofs.ExactLaws.{exact_again, exact_plainly}
use Rattle.ged_value.proofs.ZeroWords.{no_zero_is_left, integer_begins, integer_stays, integer_trims}
use Rattle.ged_value.proofs.ZeroLists.{EachShorter, each_one, each_same_trimmed, digits_trimmed}
use Rattle.ged_value.proofs.ZeroDates.{period_shorter, value_shorter, exact_shorter}
use Rattle.ged_value.proofs.ZeroTrimming.{period_trimmed, value_trimmed, exact_trimmed}
use Rattle.ged_value.proofs.ZeroIntegers.{period_kept, value_kept, exact_kept, age_kept}
use Rattle.ged_value.proofs.ZeroAges.{age_shorter, age_trimmed}

none_is_left : (words : List Bytes) → All (λ word. has_leading_zero word ≡ false) (map trim_zeros words)
none_is_left words = All-map (λ word. has_leading_zero word ≡ false) trim_zeros words (λ k d within. no_zero_is_left (get_or words k d))

-- a kind whose texts spell one value at most, where shorter words spell a value again, and trimmed words the trimmed one
module _ {Parts : Type 0} (IsText : Parts → Bytes → Type 0) (integers : Parts → List Bytes) (trimmed : Parts → Parts)
    (one : (text : Bytes) (parts others : Parts) → IsText parts text → IsText others text → parts ≡ others)
    (stand : (text : Bytes) (parts : Parts) → IsText parts text → digit_words text ≡ integers parts)
    (shorter : (text : Bytes) (parts : Parts) (new : List Bytes) → IsText parts text → EachShorter (words_of text) new → (words_of (joined new) ≡ new) × ((others : Parts) × IsText others (joined new)))
    (trims : (text : Bytes) (parts : Parts) → IsText parts text → (words_of (joined (trimmed_words text)) ≡ trimmed_words text) × IsText (trimmed parts) (joined (trimmed_words text))) where
  kind_leaves_out : LeavingOutZeros IsText integers trimmed
  kind_leaves_out = record {
    digit_words_are_integers = stand;
    integers_are_trimmed = λ text parts is.
        sym (stand (joined (trimmed_words text)) (trimmed parts) (trims text parts is).1) ∙ ap (filter begins_with_digit) (trims text parts is).0
        ∙ digits_trimmed (words_of text) ∙ ap (map trim_zeros) (stand text parts is);
    one_left_out = λ text parts fewer is l. shorter text parts fewer is (each_one (words_of text) fewer l);
    keeps_parts = λ long short parts others l is_long is_short.
        one (joined (trimmed_words long)) (trimmed parts) (trimmed others) (trims long parts is_long).1
        (subst (λ ws. IsText (trimmed others) (joined ws)) (each_same_trimmed (words_of long) (words_of short) (each_one (words_of long) (words_of short) l)) (trims short others is_short).1);
    all_left_out = trims;
    none_is_left = λ text parts is. subst (λ ws. All (λ word. has_leading_zero word ≡ false) ws) (sym (trims text parts is).0) (none_is_left (words_of text));
  }

-- a kind whose texts are lists of words
module _ {Parts : Type 0} (spells : Parts → List Bytes → Type 0) (integers : Parts → List Bytes) (trimmed : Parts → Parts)
    (read : List Bytes → Option Parts)
    (again : (y : Parts) (ws : List Bytes) → spells y ws → read ws ≡ Some y)
    (plainly : (y : Parts) (ws : List Bytes) → spells y ws → Plainly ws)
    (kept : (y : Parts) (ws : List Bytes) → spells y ws → filter begins_with_digit ws ≡ integers y)
    (shorter : (y : Parts) (old new : List Bytes) → spells y old → EachShorter old new → (z : Parts) × spells z new)
    (trims : (y : Parts) (ws : List Bytes) → spells y ws → spells (trimmed y) (map trim_zeros ws)) where
  abbrev Spelled : Parts → Bytes → Type 0
  Spelled y text = (ws : List Bytes) × spells y ws × (text ≡ joined ws)

  same : (text : Bytes) (y : Parts) (s : Spelled y text) → words_of text ≡ s.0
  same text y s = words_same s.0 text (plainly y s.0 s.1) s.2

  words_leave_out : LeavingOutZeros Spelled integers trimmed
  words_leave_out = kind_leaves_out Spelled integers trimmed
      (λ text x y s t. let once : Some x ≡ Some y = sym (again x s.0 s.1) ∙ ap read (sym (same text x s) ∙ same text y t) ∙ again y t.0 t.1 in (cc))
      (λ text y s. ap (filter begins_with_digit) (same text y s) ∙ kept y s.0 s.1)
      (λ text y new s h.
      let z = shorter y s.0 new s.1 (subst (λ ws. EachShorter ws new) (same text y s) h) in
      (words_same new (joined new) (plainly z.0 new z.1) refl, (z.0, (new, z.1, refl))))
      (λ text y s.
      let spelled = subst (λ ws. spells (trimmed y) (map trim_zeros ws)) (sym (same text y s)) (trims y s.0 s.1) in
      (words_same (trimmed_words text) (joined (trimmed_words text)) (plainly (trimmed y) (trimmed_words text) spelled) refl, (trimmed_words text, spelled, refl)))

pub date_values : LeavingOutZeros DateValueText value_integers trimmed_value
date_values = words_leave_out SpellsValue value_integers trimmed_value value_at value_again value_plainly value_kept value_shorter value_trimmed

pub periods : LeavingOutZeros PeriodText period_integers trimmed_period
periods = words_leave_out SpellsPeriod period_integers trimmed_period period_at period_again period_plainly period_kept period_shorter period_trimmed

pub exact_dates : LeavingOutZeros ExactText exact_integers trimmed_exact
exact_dates = words_leave_out SpellsExact exact_integers trimmed_exact exact_at exact_again exact_plainly exact_kept exact_shorter exact_trimmed

pub ages : LeavingOutZeros AgeText age_integers trimmed_age
ages = kind_leaves_out AgeText age_integers trimmed_age one_age age_kept age_shorter age_trimmed

-- an Integer is one word
one_word : (text digits : Bytes) → IntegerText digits text → words_of text ≡ digits ∷ []
one_word text digits is = rw is.1 (split_end digits (no_space is_ascii_digit digits refl (integer_digits digits is.0)))

one_shorter : (text digits : Bytes) (new : List Bytes) → IntegerText digits text → EachShorter (words_of text) new → (words_of (joined new) ≡ new) × ((others : Bytes) × IntegerText others (joined new))
one_shorter text digits new is h =
    let r = subst (λ ws. EachShorter ws new) (one_word text digits is) h in
    let integer = (integer_stays digits r.0 r.3 is.0).integer in
    let words : new ≡ r.0 ∷ [] = r.2 ∙ ap (λ x. r.0 ∷ x) r.4 in
    subst (λ ws. (words_of (joined ws) ≡ ws) × ((others : Bytes) × IntegerText others (joined ws))) (sym words) (one_word r.0 r.0 (integer, refl), (r.0, (integer, refl)))

one_trimmed : (text digits : Bytes) → IntegerText digits text → (words_of (joined (trimmed_words text)) ≡ trimmed_words text) × IntegerText (trim_zeros digits) (joined (trimmed_words text))
one_trimmed text digits is =
    let integer = (integer_trims digits is.0).integer in
    subst (λ ws. (words_of (joined (map trim_zeros ws)) ≡ map trim_zeros ws) × IntegerText (trim_zeros digits) (joined (map trim_zeros ws)))
    (sym (one_word text digits is)) (one_word (trim_zeros digits) (trim_zeros digits) (integer, refl), (integer, refl))

pub integers : LeavingOutZeros IntegerText integer_alone trim_zeros
integers = kind_leaves_out IntegerText integer_alone trim_zeros
    (λ text x y s t. sym s.1 ∙ t.1)
    (λ text digits is. ap (filter begins_with_digit) (one_word text digits is) ∙ rw (integer_begins digits is.0) refl)
    one_shorter one_trimmed
