-- A line is plain exactly where its words are.
use Rattle.std.proofs.Common.{◌≡◌, ℕ, ◌+◌, ◌<◌, Bool, true, false, not, ◌&&◌, ◌||◌, List, [], ◌∷◌, ◌++◌, length, get_or, refl, sym, ap, ◌∙◌, subst, arith}
use Rattle.std.specs.Str.{IsUtf8, is_utf8, chars}
use Rattle.std.specs.List.{list_all, list_any}
use Rattle.std.proofs.Math.Bool.{and-true}
use Rattle.std.proofs.Math.Seq.{take-append_seam, drop-append-add, get_or-append_seam}
use Rattle.std.proofs.lemmas.Bool.{false≢true, false_from_ne_true}
use Rattle.std.proofs.lemmas.List.{length-append}
use Rattle.std.proofs.lemmas.List.Folds.{list_any-append}
use Rattle.std.proofs.lemmas.List.Splits.{join_with_byte-slice_split}
use Rattle.std.proofs.lemmas.Str.{IsUtf8-from_is_utf8, is_utf8-from_IsUtf8, IsUtf8-append, IsUtf8-from_ascii, IsUtf8-take, IsUtf8-drop, IsCharBoundary-before_ascii, IsCharBoundary-after_ascii, chars-append, chars_past_char, encode_ascii}
use Rattle.std.proofs.lemmas.Str.Ascii.{IsAscii-cons, IsAscii-nil}
use Rattle.ged_line.specs.Bytes.{Bytes}
use Rattle.ged_line.specs.Characters.{is_banned, has_banned, is_plain}
use Rattle.ged_value.specs.Words.{words_of, joined}
use Rattle.ged_value.specs.Default.{default_word}

-- Two texts with an ASCII character between them.

module _ (x : Bytes) (c : ℕ) (y : Bytes) (small : c < 128) where
  whole : Bytes
  whole = x ++ c ∷ y

  inside : length x < length whole
  unfolding whole
  inside = omega (arith, length-append x (c ∷ y))

  between : get_or whole (length x) 0 ≡ c
  unfolding whole
  between = get_or-append_seam x c y 0

  front_utf8 : IsUtf8 whole → IsUtf8 x
  unfolding whole
  front_utf8 h = subst IsUtf8 (take-append_seam x (c ∷ y)) (IsUtf8-take whole (length x) h (IsCharBoundary-before_ascii whole (length x) inside (subst (λ b. b < 128) (sym between) small)))

  back_utf8 : IsUtf8 whole → IsUtf8 y
  unfolding whole
  back_utf8 h = subst IsUtf8 (drop-append-add x (c ∷ y) 1) (IsUtf8-drop whole (length x + 1) h (IsCharBoundary-after_ascii whole (length x) h inside (subst (λ b. b < 128) (sym between) small)))

  one_utf8 : IsUtf8 (c ∷ [])
  one_utf8 = IsUtf8-from_ascii (c ∷ []) (IsAscii-cons c [] small IsAscii-nil)

  whole_utf8 : IsUtf8 x → IsUtf8 y → IsUtf8 whole
  unfolding whole
  whole_utf8 h k = IsUtf8-append x (c ∷ y) h (IsUtf8-append (c ∷ []) y one_utf8 k)

  chars_whole : IsUtf8 x → IsUtf8 y → chars whole ≡ chars x ++ c ∷ chars y
  unfolding whole
  chars_whole h k = chars-append x (c ∷ y) h ∙ ap (λ cs. chars x ++ cs) (chars_past_char (c ∷ y) y c (IsUtf8-append (c ∷ []) y one_utf8 k) (ap (λ bs. bs ++ y) (sym (encode_ascii c small))))

  banned_whole : is_banned c ≡ false → IsUtf8 x → IsUtf8 y → has_banned whole ≡ (has_banned x || has_banned y)
  banned_whole fine h k =
      ap (list_any is_banned) (chars_whole h k) ∙ list_any-append is_banned (chars x) (c ∷ chars y)
      ∙ ap (λ b. has_banned x || (b || has_banned y)) fine

  -- the whole is plain exactly where both texts are
  pub plain_seam : is_banned c ≡ false → is_plain (x ++ c ∷ y) ≡ (is_plain x && is_plain y)
  unfolding whole
  plain_seam fine = by (is_utf8 x) (is_utf8 y) refl refl
    where
      neither : (a b : Bool) → not (a || b) ≡ (not a && not b)
      neither true b = refl
      neither false b = refl

      none_after : (a : Bool) → false ≡ (a && false)
      none_after true = refl
      none_after false = refl

      not_whole : (is_utf8 whole ≡ true → ⊥) → is_plain whole ≡ false
      not_whole h = ap (λ b. b && not (has_banned whole)) (false_from_ne_true (is_utf8 whole) h)

      by : (a b : Bool) → is_utf8 x ≡ a → is_utf8 y ≡ b → is_plain whole ≡ ((a && not (has_banned x)) && (b && not (has_banned y)))
      by true true p q =
          let h = IsUtf8-from_is_utf8 x p in
          let k = IsUtf8-from_is_utf8 y q in
          ap (λ b. b && not (has_banned whole)) (is_utf8-from_IsUtf8 whole (whole_utf8 h k)) ∙ ap not (banned_whole fine h k) ∙ neither (has_banned x) (has_banned y)
      by false b p q = not_whole (λ h. false≢true (sym p ∙ is_utf8-from_IsUtf8 x (front_utf8 (IsUtf8-from_is_utf8 whole h))))
      by true false p q =
          not_whole (λ h. false≢true (sym q ∙ is_utf8-from_IsUtf8 y (back_utf8 (IsUtf8-from_is_utf8 whole h))))
          ∙ none_after (not (has_banned x))

nothing_plain : is_plain [] ≡ true
unfolding is_utf8 chars
nothing_plain = refl

-- a 0 at the front of a plain text
pub plain_zero : (text : Bytes) → is_plain (48 ∷ text) ≡ is_plain text
plain_zero text = plain_seam [] 48 text (omega arith) refl ∙ ap (λ b. b && is_plain text) nothing_plain

pub default_plain : is_plain default_word ≡ true
unfolding is_utf8 chars lib.Utf8.encode
default_plain = refl

pub plain_joined : (ws : List Bytes) → is_plain (joined ws) ≡ list_all is_plain ws
plain_joined [] = nothing_plain
plain_joined (x ∷ []) = sym (and-true (is_plain x))
plain_joined (x ∷ y ∷ xs) = plain_seam x 32 (joined (y ∷ xs)) (omega arith) refl ∙ ap (λ b. is_plain x && b) (plain_joined (y ∷ xs))

pub plain_words : (line : Bytes) (ws : List Bytes) → words_of line ≡ ws → is_plain line ≡ list_all is_plain ws
plain_words line ws e = sym (ap is_plain (join_with_byte-slice_split 32 line)) ∙ plain_joined (words_of line) ∙ ap (list_all is_plain) e
