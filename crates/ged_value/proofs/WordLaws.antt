-- Laws of the words of a payload.
use Rattle.std.proofs.Common.{◌≡◌, ℕ, suc, ◌+◌, ◌-◌, ◌*◌, ◌<◌, ◌≤◌, min, Bool, true, false, List, [], ◌∷◌, length, get_or, drop, refl, sym, ap, ◌∙◌, arith, ◌&&◌, add-one, drop-cons}
use Rattle.std.specs.List.{list_all}
use Rattle.std.specs.Char.{is_ascii_digit}
use Rattle.std.proofs.lemmas.List.Recursion.{and_at}
use Rattle.std.proofs.lemmas.Bool.Decides.{nat_tests}
use Rattle.std.specs.Str.{bytes_eq}
use Rattle.std.proofs.lemmas.Slice.Eq.{bytes_eq-Decides}
use Rattle.ged_value.specs.Words.{is_integer, is_one_of}
use Rattle.ged_value.specs.inner.Numerals.{number_after}

-- a number that is cut off at 1000 leaves the same number cut off at 1000
pub cut_number : (n : ℕ) (text : List ℕ) → min 1000 (number_after (min 1000 n) text) ≡ min 1000 (number_after n text)
cut_number n [] = omega arith
cut_number n (c ∷ cs) =
    sym (cut_number (10 * min 1000 n + (c - 48)) cs) ∙ ap (λ m. min 1000 (number_after m cs)) (omega arith) ∙ cut_number (10 * n + (c - 48)) cs

digit_range : (c : ℕ) → is_ascii_digit c ≡ true → (48 ≤ c) × (c ≤ 57)
digit_range c h = grind (arith, nat_tests)

pub digit_at : (text : List ℕ) (i : ℕ) → i < length text → list_all is_ascii_digit text ≡ true → (48 ≤ get_or text i 0) × (get_or text i 0 ≤ 57)
digit_at text i within h = digit_range (get_or text i 0) (and_at (list_all is_ascii_digit) is_ascii_digit refl (λ _ _. refl) text i 0 within h)

-- one digit more, where v is the number so far, or 1000
pub cut_step : (text : List ℕ) (i v w : ℕ) → i < length text → min 1000 w ≡ min 1000 (10 * v + (get_or text i 0 - 48)) → min 1000 (number_after w (drop (i + 1) text)) ≡ min 1000 (number_after v (drop i text))
cut_step text i v w within e =
    rw (add-one, drop-cons text i 0)
    (sym (cut_number w (drop (suc i) text)) ∙ ap (λ m. min 1000 (number_after m (drop (suc i) text))) e ∙ cut_number (10 * v + (get_or text i 0 - 48)) (drop (suc i) text))

pub both : (a b : Bool) → (a && b) ≡ true → (a ≡ true) × (b ≡ true)
both true b h = (refl, h)
both false b h = cc

pub integer_digits : (text : List ℕ) → is_integer text ≡ true → list_all is_ascii_digit text ≡ true
integer_digits text h = (both _ _ h).1

not_from : (b : Bool) → (b ≡ true → ⊥) → b ≡ false
not_from true h = absurd (h refl)
not_from false h = refl

pub other : (w t : List ℕ) → (t ≡ w → ⊥) → bytes_eq w t ≡ false
other w t h = (not_from (bytes_eq w t) (λ e. h (sym ((bytes_eq-Decides w t).0 e))))

-- the text is none of the words
abbrev pub Differs : List (List ℕ) → List ℕ → Type 0
Differs [] t = Unit {0}
Differs (w ∷ ws) t = (t ≡ w → ⊥) × Differs ws t

pub none_of : (ws : List (List ℕ)) (t : List ℕ) → Differs ws t → is_one_of ws t ≡ false
none_of [] t h = refl
none_of (w ∷ ws) t h = rw (other w t h.0) (none_of ws t h.1)
