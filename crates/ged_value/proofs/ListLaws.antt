-- Laws of lists of words.
use Rattle.std.proofs.Common.{◌≡◌, ℕ, zero, suc, ◌+◌, ◌-◌, ◌<◌, ◌≤◌, true, false, List, [], ◌∷◌, length, get_or, take, drop, Some, None, refl, sym, ap, ◌∙◌, arith}
use Rattle.std.specs.Str.{bytes_eq}
use Rattle.std.specs.Borrow.{Bor}
use Rattle.std.proofs.Common.{add-one, below_more}
use Rattle.std.proofs.lemmas.List.{get_or-map, take-map, drop-map, length-map}
use Rattle.std.proofs.lemmas.Grind.{common_steps}
use Rattle.ged_value.specs.Texts.{bytes_of}
use Rattle.ged_value.specs.inner.Texts.{texts}
use Rattle.ged_value.specs.Words.{Bytes}
use Rattle.ged_value.specs.inner.WordReading.{around}

pub around_at : (w : Bytes) (ws : List Bytes) (i : ℕ) → i < length ws → ((k : ℕ) → k < i → bytes_eq (get_or ws k []) w ≡ false) → bytes_eq (get_or ws i []) w ≡ true → around w ws ≡ Some (take i ws, drop (suc i) ws)
around_at w [] i within before here = absurd (omega arith)
around_at w (x ∷ xs) zero within before here = rw here refl
around_at w (x ∷ xs) (suc i) within before here =
    rw (before 0 (omega arith), around_at w xs i (omega arith) (λ k l. before (suc k) (omega arith)) here) refl

pub around_none : (w : Bytes) (ws : List Bytes) → ((k : ℕ) → k < length ws → bytes_eq (get_or ws k []) w ≡ false) → around w ws ≡ None
around_none w [] before = refl
around_none w (x ∷ xs) before = rw (before 0 (omega arith), around_none w xs (λ k l. before (suc k) (omega arith))) refl

text_at : (words : List (Bor (List ℕ))) (i : ℕ) (d : Bor (List ℕ)) → i < length words → get_or (texts words) i [] ≡ (get_or words i d).now
text_at words i d within = get_or-map bytes_of words i d [] within

pub here : (words : List (Bor (List ℕ))) (word : Bytes) (i : ℕ) (d : Bor (List ℕ)) → i < length words → ((k : ℕ) → k < i → bytes_eq (get_or (texts words) k []) word ≡ false) → bytes_eq (get_or words i d).now word ≡ true
    → Some (texts (take i words), texts (take (length words - (i + 1)) (drop (i + 1) words))) ≡ around word (texts words)
here words word i d within before found =
    let e = around_at word (texts words) i (rw length-map within) before (rw (text_at words i d within) found) in
    let all : take (length words - (i + 1)) (drop (i + 1) words) ≡ drop (i + 1) words = grind (arith, common_steps) in
    rw (all, add-one) (sym (e ∙ ap (λ p. Some p) (ap (λ a. (a, drop (suc i) (texts words))) (take-map bytes_of i words) ∙ ap (λ b. (texts (take i words), b)) (drop-map bytes_of (suc i) words))))

pub not_here : (words : List (Bor (List ℕ))) (word : Bytes) (i : ℕ) (d : Bor (List ℕ)) → i < length words → ((k : ℕ) → k < i → bytes_eq (get_or (texts words) k []) word ≡ false) → bytes_eq (get_or words i d).now word ≡ false
    → (k : ℕ) → k < i + 1 → bytes_eq (get_or (texts words) k []) word ≡ false
not_here words word i d within before fails = below_more _ _ before (rw (text_at words i d within) fails)

pub nowhere : (words : List (Bor (List ℕ))) (word : Bytes) (i : ℕ) → length words ≤ i → ((k : ℕ) → k < i → bytes_eq (get_or (texts words) k []) word ≡ false) → None ≡ around word (texts words)
nowhere words word i past before = sym (around_none word (texts words) (λ k l. before k (omega (arith, simp length-map at l))))
