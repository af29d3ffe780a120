-- The leading zeros of one word.
use Rattle.std.proofs.Common.{◌≡◌, ℕ, suc, Bool, true, false, ◌⊎◌, inl, inr, cond, [], ◌∷◌, ◌++◌, length, refl, sym, ap, ◌∙◌, arith}
use Rattle.std.specs.Prelude.{nat_lt, replicate}
use Rattle.std.specs.List.{list_all}
use Rattle.std.specs.Char.{is_ascii_digit}
use Rattle.std.proofs.lemmas.Bool.{and_parts, and_from, lt-ltb, false≢true}
use Rattle.std.proofs.lemmas.Bool.Decides.{Decides-eqb}
use Rattle.ged_value.specs.Words.{Bytes, is_integer, number}
use Rattle.ged_value.specs.Zeros.{begins_with_digit, has_leading_zero, trim_zeros}
use Rattle.ged_value.specs.ZeroLaws.{Trimming}
use Rattle.ged_value.proofs.WordLaws.{integer_digits}

-- the new word is the old one without some of its leading zeros
abbrev pub Shorter : Bytes → Bytes → Type 0
Shorter [] new = new ≡ []
Shorter (b ∷ bs) new = (new ≡ b ∷ bs) ⊎ ((has_leading_zero (b ∷ bs) ≡ true) × Shorter bs new)

pub shorter_same : (word : Bytes) → Shorter word word
shorter_same [] = refl
shorter_same (b ∷ bs) = inl refl

pub shorter_one : (word : Bytes) → begins_with_digit word ≡ true → Shorter (48 ∷ word) word
shorter_one word d = inr (d, shorter_same word)

trimmed_step : (b : ℕ) (bs : Bytes) (leads : Bool) → has_leading_zero (b ∷ bs) ≡ leads → Shorter bs (trim_zeros bs) → Shorter (b ∷ bs) (cond leads (trim_zeros bs) (b ∷ bs))
trimmed_step b bs true e rest = inr (e, rest)
trimmed_step b bs false e rest = inl refl

pub shorter_trimmed : (word : Bytes) → Shorter word (trim_zeros word)
shorter_trimmed [] = refl
shorter_trimmed (b ∷ bs) = trimmed_step b bs (has_leading_zero (b ∷ bs)) refl (shorter_trimmed bs)

-- a leading zero is a zero, and a digit stands behind it
zero_and_digit : (b : ℕ) (bs : Bytes) → has_leading_zero (b ∷ bs) ≡ true → (b ≡ 48) × (begins_with_digit bs ≡ true)
zero_and_digit b bs h = let p = and_parts _ _ h in ((Decides-eqb b 48).0 p.0, p.1)

leading_begins : (word : Bytes) → has_leading_zero word ≡ true → begins_with_digit word ≡ true
leading_begins [] h = absurd (false≢true h)
leading_begins (b ∷ bs) h = ap is_ascii_digit (zero_and_digit b bs h).0

-- a word that begins with no digit stays
pub other_stays : (old new : Bytes) → Shorter old new → begins_with_digit old ≡ false → new ≡ old
other_stays [] new h n = h
other_stays (b ∷ bs) new (inl same) n = same
other_stays (b ∷ bs) new (inr (e, h)) n = absurd (false≢true (sym n ∙ leading_begins (b ∷ bs) e))

pub other_trims : (word : Bytes) → begins_with_digit word ≡ false → trim_zeros word ≡ word
other_trims word n = other_stays word (trim_zeros word) (shorter_trimmed word) n

-- digits, one at least
pub integer_from : (word : Bytes) → begins_with_digit word ≡ true → list_all is_ascii_digit word ≡ true → is_integer word ≡ true
integer_from [] d h = absurd (false≢true d)
integer_from (b ∷ bs) d h = and_from (nat_lt 0 (length (b ∷ bs))) _ (lt-ltb 0 (length (b ∷ bs)) (omega arith)) h

pub integer_begins : (word : Bytes) → is_integer word ≡ true → begins_with_digit word ≡ true
integer_begins [] h = absurd (false≢true h)
integer_begins (b ∷ bs) h = (and_parts (is_ascii_digit b) _ (integer_digits (b ∷ bs) h)).0

-- an Integer stays one, and the same number
pub record SameInteger (old new : Bytes) : Type 0 where
  pub integer : is_integer new ≡ true
  pub same : number new ≡ number old

zero_adds_nothing : (b : ℕ) (bs : Bytes) → b ≡ 48 → number bs ≡ number (b ∷ bs)
zero_adds_nothing b bs e = rw e refl

pub integer_stays : (old new : Bytes) → Shorter old new → is_integer old ≡ true → SameInteger old new
integer_stays [] new h i = absurd (false≢true i)
integer_stays (b ∷ bs) new (inl same) i = rw same (record { integer = i; same = refl })
integer_stays (b ∷ bs) new (inr (e, h)) i =
    let z = zero_and_digit b bs e in
    let rest = integer_stays bs new h (integer_from bs z.1 (and_parts (is_ascii_digit b) _ (integer_digits (b ∷ bs) i)).1) in
    record { integer = rest.integer; same = rest.same ∙ zero_adds_nothing b bs z.0 }

pub integer_trims : (word : Bytes) → is_integer word ≡ true → SameInteger word (trim_zeros word)
integer_trims word i = integer_stays word (trim_zeros word) (shorter_trimmed word) i

-- a word and a shorter one are the same when trimmed
pub same_trimmed : (old new : Bytes) → Shorter old new → trim_zeros new ≡ trim_zeros old
same_trimmed [] new h = ap trim_zeros h
same_trimmed (b ∷ bs) new (inl same) = ap trim_zeros same
same_trimmed (b ∷ bs) new (inr (e, h)) = same_trimmed bs new h ∙ rw e refl

-- What is left of a word.

left_step : (b : ℕ) (bs : Bytes) (leads : Bool) → has_leading_zero (b ∷ bs) ≡ leads → has_leading_zero (trim_zeros bs) ≡ false → has_leading_zero (cond leads (trim_zeros bs) (b ∷ bs)) ≡ false
left_step b bs true e rest = rest
left_step b bs false e rest = e

pub no_zero_is_left : (word : Bytes) → has_leading_zero (trim_zeros word) ≡ false
no_zero_is_left [] = refl
no_zero_is_left (b ∷ bs) = left_step b bs (has_leading_zero (b ∷ bs)) refl (no_zero_is_left bs)

pub trimmed_stays : (word : Bytes) → has_leading_zero word ≡ false → trim_zeros word ≡ word
trimmed_stays [] h = refl
trimmed_stays (b ∷ bs) h = rw h refl

only_zeros_go : (old new : Bytes) → Shorter old new → (count : ℕ) × (old ≡ replicate count 48 ++ new)
only_zeros_go [] new h = (0, sym h)
only_zeros_go (b ∷ bs) new (inl same) = (0, sym same)
only_zeros_go (b ∷ bs) new (inr (e, h)) =
    let rest = only_zeros_go bs new h in
    (suc rest.0, ap (λ x. x ∷ bs) (zero_and_digit b bs e).0 ∙ ap (λ x. 48 ∷ x) rest.1)

digit_stays_in_front : (old new : Bytes) → Shorter old new → begins_with_digit old ≡ true → begins_with_digit new ≡ true
digit_stays_in_front [] new h d = absurd (false≢true d)
digit_stays_in_front (b ∷ bs) new (inl same) d = rw same d
digit_stays_in_front (b ∷ bs) new (inr (e, h)) d = digit_stays_in_front bs new h (zero_and_digit b bs e).1

begins_step : (word : Bytes) (begins : Bool) → begins_with_digit word ≡ begins → begins_with_digit (trim_zeros word) ≡ begins_with_digit word
begins_step word true e = digit_stays_in_front word (trim_zeros word) (shorter_trimmed word) e ∙ sym e
begins_step word false e = ap begins_with_digit (other_trims word e)

pub begins_the_same : (word : Bytes) → begins_with_digit (trim_zeros word) ≡ begins_with_digit word
begins_the_same word = begins_step word (begins_with_digit word) refl

digit_is_left : (old new : Bytes) → Shorter old new → (new ≡ old) ⊎ (begins_with_digit new ≡ true)
digit_is_left [] new h = inl h
digit_is_left (b ∷ bs) new (inl same) = inl same
digit_is_left (b ∷ bs) new (inr (e, h)) = inr (digit_stays_in_front bs new h (zero_and_digit b bs e).1)

pub trimming : (word : Bytes) → Trimming word
trimming word = record {
  only_zeros_go = only_zeros_go word (trim_zeros word) (shorter_trimmed word);
  a_digit_is_left = digit_is_left word (trim_zeros word) (shorter_trimmed word);
  none_is_left = no_zero_is_left word;
  trimmed_stays = trimmed_stays word;
  others_stay = other_trims word;
  twice_is_once = trimmed_stays (trim_zeros word) (no_zero_is_left word);
  number_stays = λ i. let s = integer_trims word i in (s.integer, s.same);
}
