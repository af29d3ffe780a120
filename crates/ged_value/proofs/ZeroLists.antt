-- The leading zeros of the words of a list.
use Rattle.std.proofs.Common.{◌≡◌, suc, Bool, true, false, cond, List, [], ◌∷◌, ◌++◌, length, map, refl, ap, ◌∙◌}
use Rattle.std.specs.Prelude.{filter}
use Rattle.ged_value.specs.Words.{Bytes}
use Rattle.ged_value.specs.Zeros.{begins_with_digit, trim_zeros, LeavesOutZero}
use Rattle.ged_value.proofs.ZeroWords.{Shorter, shorter_same, shorter_one, same_trimmed, begins_the_same}

-- each word of the new list is the old one without some of its leading zeros
abbrev pub EachShorter : List Bytes → List Bytes → Type 0
EachShorter [] new = new ≡ []
EachShorter (w ∷ ws) new = (v : Bytes) × (vs : List Bytes) × (new ≡ v ∷ vs) × Shorter w v × EachShorter ws vs

each_same : (ws : List Bytes) → EachShorter ws ws
each_same [] = refl
each_same (w ∷ ws) = (w, ws, refl, shorter_same w, each_same ws)

at_one : (front : List Bytes) (word : Bytes) (back : List Bytes) → begins_with_digit word ≡ true → EachShorter (front ++ ((48 ∷ word) ∷ back)) (front ++ (word ∷ back))
at_one [] word back d = (word, back, refl, shorter_one word d, each_same back)
at_one (w ∷ ws) word back d = (w, ws ++ (word ∷ back), refl, shorter_same w, at_one ws word back d)

pub each_one : (old new : List Bytes) → LeavesOutZero old new → EachShorter old new
each_one old new l = rw (l.4, l.5) (at_one l.0 l.1 l.2 l.3)

-- the words of two lists, one behind the other
pub each_of_both : (left right new : List Bytes) → EachShorter (left ++ right) new → (l : List Bytes) × (r : List Bytes) × (new ≡ l ++ r) × EachShorter left l × EachShorter right r
each_of_both [] right new h = ([], new, refl, refl, h)
each_of_both (w ∷ ws) right new h =
    let rest = each_of_both ws right h.1 h.4 in
    (h.0 ∷ rest.0, rest.1, h.2 ∙ ap (λ x. h.0 ∷ x) rest.2, (h.0, rest.0, refl, h.3, rest.3), rest.4)

pub each_length : (old new : List Bytes) → EachShorter old new → length new ≡ length old
each_length [] new h = rw h refl
each_length (w ∷ ws) new h = rw h.2 (ap suc (each_length ws h.1 h.4))

pub each_same_trimmed : (old new : List Bytes) → EachShorter old new → map trim_zeros new ≡ map trim_zeros old
each_same_trimmed [] new h = ap (map trim_zeros) h
each_same_trimmed (w ∷ ws) new h =
    ap (map trim_zeros) h.2 ∙ ap (λ x. x ∷ map trim_zeros h.1) (same_trimmed w h.0 h.3) ∙ ap (λ x. trim_zeros w ∷ x) (each_same_trimmed ws h.1 h.4)

digits_step : (w : Bytes) (ws : List Bytes) (begins : Bool) → filter begins_with_digit (map trim_zeros ws) ≡ map trim_zeros (filter begins_with_digit ws)
    → cond begins (trim_zeros w ∷ filter begins_with_digit (map trim_zeros ws)) (filter begins_with_digit (map trim_zeros ws)) ≡ map trim_zeros (cond begins (w ∷ filter begins_with_digit ws) (filter begins_with_digit ws))
digits_step w ws true rest = ap (λ x. trim_zeros w ∷ x) rest
digits_step w ws false rest = rest

-- the trimmed words that begin with a digit are those that begin with a digit, trimmed
pub digits_trimmed : (ws : List Bytes) → filter begins_with_digit (map trim_zeros ws) ≡ map trim_zeros (filter begins_with_digit ws)
digits_trimmed [] = refl
digits_trimmed (w ∷ ws) = rw (begins_the_same w) (digits_step w ws (begins_with_digit w) (digits_trimmed ws))
