-- A text that is cut at a character, and the parts put together again.
use Rattle.std.proofs.Common.{◌≡◌, ◌≢◌, ℕ, zero, suc, ◌<◌, Bool, true, false, cond, List, [], ◌∷◌, ◌++◌, length, get_or, take, drop, Option, Some, None, refl, sym, ap, subst, ◌∙◌, arith, append-nil}
use Rattle.std.specs.Prelude.{◌==◌}
use Rattle.std.specs.List.{list_all, list_any, onto_first}
use Rattle.std.proofs.lemmas.Bool.{ne_eqb, or_from, or_parts, and_parts, false≢true, false_from_ne_true}
use Rattle.std.proofs.lemmas.Bool.Decides.{Decides-eqb}
use Rattle.ged_value.specs.Words.{Bytes, words_of}
use Rattle.ged_value.specs.inner.Cuts.{cut_at, marked}

abbrev pub has : ℕ → Bytes → Bool
has character text = list_any (λ b. b == character) text

pub has_none_at : (c : ℕ) (w : Bytes) → ((i : ℕ) → i < length w → get_or w i 0 ≢ c) → has c w ≡ false
has_none_at c [] h = refl
has_none_at c (b ∷ bs) h = or_from _ _ (ne_eqb b c (h 0 (omega arith))) (has_none_at c bs (λ i l. h (suc i) (omega arith)))

-- what passes a test of every byte, which the character fails, doesn't have it
pub has_none : (p : ℕ → Bool) (c : ℕ) (w : Bytes) → p c ≡ false → list_all p w ≡ true → has c w ≡ false
has_none p c [] f h = refl
has_none p c (b ∷ bs) f h =
    let q = and_parts _ _ h in
    or_from _ _ (false_from_ne_true _ (λ t. false≢true (sym f ∙ subst (λ x. p x ≡ true) ((Decides-eqb b c).0 t) q.0))) (has_none p c bs f q.1)

pub has_neither : (c : ℕ) (v w : Bytes) → has c v ≡ false → has c w ≡ false → has c (v ++ w) ≡ false
has_neither c [] w g h = h
has_neither c (b ∷ bs) w g h = let p = or_parts (b == c) (has c bs) g in or_from _ _ p.0 (has_neither c bs w p.1 h)

-- a text is cut behind a front without the character
pub cut_again : (c : ℕ) (front : Bytes) (back : Option Bytes) → has c front ≡ false → cut_at c (front ++ marked c back) ≡ (front, back)
cut_again c [] None h = refl
cut_again c [] (Some back) h = rw ((Decides-eqb c c).1 refl) refl
cut_again c (b ∷ bs) back h = let p = or_parts (b == c) (has c bs) h in rw (p.0, cut_again c bs back p.1) refl

joined_at : (t : Bool) (c b : ℕ) (bs : Bytes) (parts : Bytes × Option Bytes) → (t ≡ true → b ≡ c) → bs ≡ parts.0 ++ marked c parts.1
    → let r : Bytes × Option Bytes = cond t ([], Some bs) (b ∷ parts.0, parts.1) in (b ∷ bs) ≡ r.0 ++ marked c r.1
joined_at true c b bs parts e h = ap (λ x. x ∷ bs) (e refl)
joined_at false c b bs parts e h = ap (λ x. b ∷ x) h

pub cut_joined : (c : ℕ) (text : Bytes) → text ≡ (cut_at c text).0 ++ marked c (cut_at c text).1
cut_joined c [] = refl
cut_joined c (b ∷ bs) = joined_at (b == c) c b bs (cut_at c bs) (Decides-eqb b c).0 (cut_joined c bs)

-- a text is cut at the first place of the character
pub cut_place : (c : ℕ) (text : Bytes) (i : ℕ) → i < length text → get_or text i 0 ≡ c → ((k : ℕ) → k < i → get_or text k 0 ≢ c) → cut_at c text ≡ (take i text, Some (drop (suc i) text))
cut_place c [] i within here before = absurd (omega arith)
cut_place c (b ∷ bs) zero within here before = rw ((Decides-eqb b c).1 here) refl
cut_place c (b ∷ bs) (suc i) within here before =
    rw (ne_eqb b c (before 0 (omega arith)), cut_place c bs i (omega arith) here (λ k l. before (suc k) (omega arith))) refl

-- what `split_once` says of a text
pub cut_there : (c : ℕ) (text front back : Bytes) → text ≡ front ++ (c ∷ back) → ((i : ℕ) → i < length front → get_or front i 0 ≢ c) → cut_at c text ≡ (front, Some back)
cut_there c text front back e h = ap (cut_at c) e ∙ cut_again c front (Some back) (has_none_at c front h)

pub cut_nowhere : (c : ℕ) (text : Bytes) → ((i : ℕ) → i < length text → get_or text i 0 ≢ c) → cut_at c text ≡ (text, None)
cut_nowhere c text h = ap (cut_at c) (sym (append-nil text)) ∙ cut_again c text None (has_none_at c text h)

-- the words of what stands behind a first word and its space, if there is a space
abbrev pub words_behind : Option Bytes → List Bytes
words_behind None = []
words_behind (Some rest) = words_of rest

-- a text that is cut at a space is cut behind its first word
pub words_cut : (text : Bytes) → words_of text ≡ (cut_at 32 text).0 ∷ words_behind (cut_at 32 text).1
words_cut [] = refl
words_cut (b ∷ bs) = by (b == 32) (words_cut bs)
  where
    by : (t : Bool) → words_of bs ≡ (cut_at 32 bs).0 ∷ words_behind (cut_at 32 bs).1
        → let r : Bytes × Option Bytes = cond t ([], Some bs) (b ∷ (cut_at 32 bs).0, (cut_at 32 bs).1) in cond t ([] ∷ words_of bs) (onto_first b (words_of bs)) ≡ r.0 ∷ words_behind r.1
    by true h = refl
    by false h = ap (onto_first b) h
