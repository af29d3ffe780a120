-- A brief line, made word by word.
use Rattle.std.proofs.Common.{◌≡◌, Bool, true, false, cond, not, ◌&&◌, List, [], ◌∷◌, ◌++◌, map, filter, refl, sym, ap, subst, ◌∙◌, append_assoc, append-nil}
use Rattle.std.specs.Str.{bytes_eq}
use Rattle.std.proofs.lemmas.List.{map-append}
use Rattle.std.proofs.lemmas.List.Elements.{filter-append}
use Rattle.ged_line.specs.Bytes.{Bytes}
use Rattle.ged_value.specs.Words.{joined}
use Rattle.ged_value.specs.Default.{default_word, is_other}
use Rattle.ged_value.specs.Zeros.{trim_zeros}

-- the words that are left of some words
abbrev pub left : Bool → Bool → List Bytes → List Bytes
left without_calendar without_zeros words =
    let kept = cond without_calendar (filter is_other words) words in
    cond without_zeros (map trim_zeros kept) kept

abbrev pub is_empty : List Bytes → Bool
is_empty [] = true
is_empty (w ∷ ws) = false

joined_behind : (v : Bytes) (us : List Bytes) (w : Bytes) → joined (v ∷ (us ++ w ∷ [])) ≡ joined (v ∷ us) ++ 32 ∷ w
joined_behind v [] w = refl
joined_behind v (u ∷ us) w = ap (λ j. v ++ 32 ∷ j) (joined_behind u us w) ∙ sym (append_assoc v (32 ∷ joined (u ∷ us)) (32 ∷ w))

-- a word at the end of words, after a space where there are some
joined_more : (ws : List Bytes) (w : Bytes) → joined (ws ++ w ∷ []) ≡ cond (is_empty ws) (joined ws ++ w) (joined ws ++ 32 ∷ w)
joined_more [] w = refl
joined_more (v ∷ vs) w = joined_behind v vs w

kept_more : (c : Bool) (ws : List Bytes) (w : Bytes) → (c && bytes_eq w default_word) ≡ false → cond c (filter is_other (ws ++ w ∷ [])) (ws ++ w ∷ []) ≡ cond c (filter is_other ws) ws ++ w ∷ []
kept_more false ws w e = refl
kept_more true ws w e = filter-append is_other ws (w ∷ []) ∙ ap (λ b. filter is_other ws ++ cond (not b) (w ∷ []) []) e

kept_same : (c : Bool) (ws : List Bytes) (w : Bytes) → (c && bytes_eq w default_word) ≡ true → cond c (filter is_other (ws ++ w ∷ [])) (ws ++ w ∷ []) ≡ cond c (filter is_other ws) ws
kept_same false ws w e = absurd (cc)
kept_same true ws w e = filter-append is_other ws (w ∷ []) ∙ ap (λ b. filter is_other ws ++ cond (not b) (w ∷ []) []) e ∙ append-nil (filter is_other ws)

trimmed_more : (z : Bool) (ws : List Bytes) (w : Bytes) → cond z (map trim_zeros (ws ++ w ∷ [])) (ws ++ w ∷ []) ≡ cond z (map trim_zeros ws) ws ++ cond z (trim_zeros w) w ∷ []
trimmed_more true ws w = map-append trim_zeros ws (w ∷ [])
trimmed_more false ws w = refl

pub left_more : (c z : Bool) (ws : List Bytes) (w : Bytes) → (c && bytes_eq w default_word) ≡ false → left c z (ws ++ w ∷ []) ≡ left c z ws ++ cond z (trim_zeros w) w ∷ []
left_more c z ws w e = ap (λ ks. cond z (map trim_zeros ks) ks) (kept_more c ws w e) ∙ trimmed_more z (cond c (filter is_other ws) ws) w

pub left_same : (c z : Bool) (ws : List Bytes) (w : Bytes) → (c && bytes_eq w default_word) ≡ true → left c z (ws ++ w ∷ []) ≡ left c z ws
left_same c z ws w e = ap (λ ks. cond z (map trim_zeros ks) ks) (kept_same c ws w e)

pub not_empty : (ws : List Bytes) (w : Bytes) → is_empty (ws ++ w ∷ []) ≡ false
not_empty [] w = refl
not_empty (v ∷ vs) w = refl

-- what a line of the words left is, and whether it has none yet, behind one more word
pub record MadeOf (line : Bytes) (is_first : Bool) (words : List Bytes) : Type 0 where
  pub spelled : line ≡ joined words
  pub first : is_first ≡ is_empty words

module _ (c z : Bool) (ws : List Bytes) (w : Bytes) (line : Bytes) (is_first : Bool) (made : MadeOf line is_first (left c z ws)) where
  pub made_more : (c && bytes_eq w default_word) ≡ false → (more : Bytes) → more ≡ cond is_first (line ++ cond z (trim_zeros w) w) (line ++ 32 ∷ cond z (trim_zeros w) w) → MadeOf more false (left c z (ws ++ w ∷ []))
  made_more e more told = subst (MadeOf more false) (sym (left_more c z ws w e)) (record {
    spelled = told ∙ (λ i. cond (made.first i) (made.spelled i ++ cond z (trim_zeros w) w) (made.spelled i ++ 32 ∷ cond z (trim_zeros w) w)) ∙ sym (joined_more (left c z ws) (cond z (trim_zeros w) w));
    first = sym (not_empty (left c z ws) (cond z (trim_zeros w) w));
  })

  pub made_same : (c && bytes_eq w default_word) ≡ true → MadeOf line is_first (left c z (ws ++ w ∷ []))
  made_same e = subst (MadeOf line is_first) (sym (left_same c z ws w e)) made
