-- A word GREGORIAN that is left out.
use Rattle.std.proofs.Common.{◌≡◌, Bool, true, false, not, inl, inr, List, [], ◌∷◌, ◌++◌, Option, Some, refl, sym, ap, subst, ◌∙◌, append_assoc, arith}
use Rattle.std.specs.Prelude.{codes, filter, cond}
use Rattle.std.specs.List.{list_all}
use Rattle.std.specs.Str.{bytes_eq}
use Rattle.std.proofs.lemmas.Bool.{and_parts, and_from, false≢true}
use Rattle.std.proofs.lemmas.Slice.Eq.{bytes_eq-Decides}
use Rattle.std.proofs.lemmas.List.Splits.{join_with_byte-slice_split}
use Rattle.ged_value.specs.Words.{Bytes, words_of, joined, is_extension_tag}
use Rattle.ged_value.specs.Dates.{CalendarName, gregorian, julian, french_r, hebrew, extension, DateParts, calendar_word, is_calendar, is_date, date_words, SpellsDate}
use Rattle.ged_value.specs.Values.{PeriodParts, empty, to, from, from_to, ValueParts, span, plain, between, after, before, about, calculated, estimated, Behind, BothBehind, SpellsPeriod, SpellsValue, PeriodText, DateValueText}
use Rattle.ged_value.specs.inner.ValueReading.{period_at, value_at}
use Rattle.ged_value.specs.Default.{default_word, TextLeavesOut, is_other, without_default}
use Rattle.ged_value.specs.Laws.{HasDefault, NothingLeftOut, TwoTexts, LeavingOut}
use Rattle.ged_value.proofs.DateLaws.{nots, valid, some_same}
use Rattle.ged_value.proofs.Foreign.{Lack, body_lacks, foreign_absent}
use Rattle.ged_value.proofs.ValueLaws.{value_again, period_again}
use Rattle.ged_value.proofs.TextLaws.{Plainly, words_same, period_plainly, value_plainly}

-- what passes a filter passes its test
list_all-filter_step : {X : Type 0} (p : X → Bool) (x : X) (xs : List X) (b : Bool) → p x ≡ b → list_all p xs ≡ true → list_all p (cond b (x ∷ xs) xs) ≡ true
list_all-filter_step p x xs true e h = and_from _ _ e h
list_all-filter_step p x xs false e h = h

list_all-filter : {X : Type 0} (p : X → Bool) (xs : List X) → list_all p (filter p xs) ≡ true
list_all-filter p [] = refl
list_all-filter p (x ∷ xs) = list_all-filter_step p x (filter p xs) (p x) refl (list_all-filter p xs)

-- two words, by their bytes
different : (k l : Bytes) → bytes_eq k l ≡ false → k ≡ l → ⊥
different k l d e = false≢true (sym d ∙ (bytes_eq-Decides k l).1 e)

heads : (x y : Bytes) (xs ys : List Bytes) → x ∷ xs ≡ y ∷ ys → x ≡ y
heads x y xs ys h = cc

tails : (x y : Bytes) (xs ys : List Bytes) → x ∷ xs ≡ y ∷ ys → xs ≡ ys
tails x y xs ys h = cc

-- it isn't among words that lack it
not_among : (k : Bytes) (ws front back : List Bytes) → Lack (λ w. bytes_eq w k) ws → ws ≡ front ++ (k ∷ back) → ⊥
not_among k [] [] back l e = cc
not_among k [] (f ∷ fs) back l e = cc
not_among k (w ∷ ws) [] back l e = different w k (nots (bytes_eq w k) (and_parts _ _ l).0) (heads _ _ _ _ e)
not_among k (w ∷ ws) (f ∷ fs) back l e = not_among k ws fs back (and_parts (not (bytes_eq w k)) _ l).1 (tails _ _ _ _ e)

is_gregorian : (c : CalendarName) → is_calendar c ≡ true → calendar_word c ≡ default_word → c ≡ gregorian
is_gregorian gregorian v e = refl
is_gregorian julian v e = absurd (different (codes "JULIAN") default_word refl e)
is_gregorian french_r v e = absurd (different (codes "FRENCH_R") default_word refl e)
is_gregorian hebrew v e = absurd (different (codes "HEBREW") default_word refl e)
is_gregorian (extension tag) v e = absurd (false≢true (subst (λ w. is_extension_tag w ≡ true) e v))

body_has_none : (d : DateParts) (front back : List Bytes) → is_date d ≡ true → date_words d ≡ front ++ (default_word ∷ back) → ⊥
body_has_none d front back v e = not_among default_word (date_words d) front back (body_lacks (λ w. bytes_eq w default_word) (foreign_absent default_word refl) d v) e

named_leaves : (d : DateParts) (front back : List Bytes) → is_date d ≡ true → calendar_word d.calendar ∷ date_words d ≡ front ++ (default_word ∷ back) → SpellsDate d (front ++ back)
named_leaves d [] back v e = (v, inr (is_gregorian d.calendar (valid d v).calendar (heads _ _ _ _ e), sym (tails _ _ _ _ e)))
named_leaves d (f ∷ fs) back v e = absurd (body_has_none d fs back v (tails _ _ _ _ e))

date_leaves : (d : DateParts) (ws front back : List Bytes) → SpellsDate d ws → ws ≡ front ++ (default_word ∷ back) → SpellsDate d (front ++ back)
date_leaves d ws front back h e = elim h.1 [
  | inl n ↦ named_leaves d front back h.0 (sym n ∙ e)
  | inr n ↦ absurd (body_has_none d front back h.0 (sym n.1 ∙ e))
]

-- which of two parts a word stands in
pub data Place (left : List Bytes) (k : Bytes) (right front : List Bytes) (g : Bytes) (back : List Bytes) : Type 0 where
  in_left : (b : List Bytes) → left ≡ front ++ (g ∷ b) → back ≡ b ++ (k ∷ right) → Place left k right front g back
  in_right : (f : List Bytes) → front ≡ left ++ (k ∷ f) → right ≡ f ++ (g ∷ back) → Place left k right front g back

further : (l : Bytes) (left : List Bytes) (k : Bytes) (right : List Bytes) (f : Bytes) (front : List Bytes) (g : Bytes) (back : List Bytes) → l ≡ f → Place left k right front g back → Place (l ∷ left) k right (f ∷ front) g back
further l left k right f front g back e (in_left b p q) = in_left b (ap (λ x. l ∷ x) p ∙ ap (λ x. x ∷ (front ++ (g ∷ b))) e) q
further l left k right f front g back e (in_right r p q) = in_right r (ap (λ x. f ∷ x) p ∙ ap (λ x. x ∷ (left ++ (k ∷ r))) (sym e)) q

place : (left : List Bytes) (k : Bytes) (right front : List Bytes) (g : Bytes) (back : List Bytes) → bytes_eq k g ≡ false → left ++ (k ∷ right) ≡ front ++ (g ∷ back) → Place left k right front g back
place [] k right [] g back d e = absurd (different k g d (heads _ _ _ _ e))
place [] k right (f ∷ fs) g back d e = in_right fs (ap (λ x. x ∷ fs) (sym (heads _ _ _ _ e))) (tails _ _ _ _ e)
place (l ∷ ls) k right [] g back d e = in_left ls (ap (λ x. x ∷ ls) (heads _ _ _ _ e)) (sym (tails _ _ _ _ e))
place (l ∷ ls) k right (f ∷ fs) g back d e = further l ls k right f fs g back (heads _ _ _ _ e) (place ls k right fs g back d (tails _ _ _ _ e))

behind_leaves : (k : Bytes) → bytes_eq k default_word ≡ false → (d : DateParts) (ws front back : List Bytes) → Behind k d ws → ws ≡ front ++ (default_word ∷ back) → Behind k d (front ++ back)
behind_leaves k n d ws [] back h e = absurd (different k default_word n (heads _ _ _ _ (sym h.2 ∙ e)))
behind_leaves k n d ws (f ∷ fs) back h e =
    let q = sym h.2 ∙ e in
    (fs ++ back, date_leaves d h.0 fs back h.1 (tails _ _ _ _ q), ap (λ x. x ∷ (fs ++ back)) (sym (heads _ _ _ _ q)))

placed : (l : Bytes) (d f : DateParts) (left right front back : List Bytes) → SpellsDate d left → SpellsDate f right → Place left l right front default_word back
    → (a : List Bytes) × (b : List Bytes) × SpellsDate d a × SpellsDate f b × (front ++ back ≡ a ++ (l ∷ b))
placed l d f left right front back s t (in_left b p q) =
    (front ++ b, right, date_leaves d left front b s p, t, ap (λ x. front ++ x) q ∙ sym (append_assoc front b (l ∷ right)))
placed l d f left right front back s t (in_right r p q) =
    (left, r ++ back, s, date_leaves f right r back t q, ap (λ x. x ++ back) p ∙ append_assoc left (l ∷ r) back)

both_leaves : (k l : Bytes) → bytes_eq k default_word ≡ false → bytes_eq l default_word ≡ false → (d f : DateParts) (ws front back : List Bytes) → BothBehind k d l f ws → ws ≡ front ++ (default_word ∷ back) → BothBehind k d l f (front ++ back)
both_leaves k l n m d f ws [] back h e = absurd (different k default_word n (heads _ _ _ _ (sym h.4 ∙ e)))
both_leaves k l n m d f ws (x ∷ xs) back h e =
    let q = sym h.4 ∙ e in
    let r = placed l d f h.0 h.1 xs back h.2 h.3 (place h.0 l h.1 xs default_word back m (tails _ _ _ _ q)) in
    (r.0, r.1, r.2, r.3, ap (λ y. y ∷ (xs ++ back)) (sym (heads _ _ _ _ q)) ∙ ap (λ y. k ∷ y) r.4)

empty_leaves : (ws front back : List Bytes) → ws ≡ codes "" ∷ [] → ws ≡ front ++ (default_word ∷ back) → ⊥
empty_leaves ws front back h e = not_among default_word (codes "" ∷ []) front back refl (sym h ∙ e)

pub period_leaves : (p : PeriodParts) (ws front back : List Bytes) → SpellsPeriod p ws → ws ≡ front ++ (default_word ∷ back) → SpellsPeriod p (front ++ back)
period_leaves empty ws front back h e = absurd (empty_leaves ws front back h e)
period_leaves (to d) ws front back h e = behind_leaves (codes "TO") refl d ws front back h e
period_leaves (from d) ws front back h e = behind_leaves (codes "FROM") refl d ws front back h e
period_leaves (from_to d f) ws front back h e = both_leaves (codes "FROM") (codes "TO") refl refl d f ws front back h e

pub value_leaves : (v : ValueParts) (ws front back : List Bytes) → SpellsValue v ws → ws ≡ front ++ (default_word ∷ back) → SpellsValue v (front ++ back)
value_leaves (span p) ws front back h e = period_leaves p ws front back h e
value_leaves (plain d) ws front back h e = date_leaves d ws front back h e
value_leaves (between d f) ws front back h e = both_leaves (codes "BET") (codes "AND") refl refl d f ws front back h e
value_leaves (after d) ws front back h e = behind_leaves (codes "AFT") refl d ws front back h e
value_leaves (before d) ws front back h e = behind_leaves (codes "BEF") refl d ws front back h e
value_leaves (about d) ws front back h e = behind_leaves (codes "ABT") refl d ws front back h e
value_leaves (calculated d) ws front back h e = behind_leaves (codes "CAL") refl d ws front back h e
value_leaves (estimated d) ws front back h e = behind_leaves (codes "EST") refl d ws front back h e

-- A kind of texts whose words may lose the word GREGORIAN.
module _ {Parts : Type 0} (spells : Parts → List Bytes → Type 0) (read : List Bytes → Option Parts)
    (again : (p : Parts) (ws : List Bytes) → spells p ws → read ws ≡ Some p)
    (plainly : (p : Parts) (ws : List Bytes) → spells p ws → Plainly ws)
    (leaves : (p : Parts) (ws front back : List Bytes) → spells p ws → ws ≡ front ++ (default_word ∷ back) → spells p (front ++ back)) where
  abbrev IsText : Parts → Bytes → Type 0
  IsText p text = (ws : List Bytes) × spells p ws × (text ≡ joined ws)

  words_spell : (text : Bytes) (p : Parts) → IsText p text → spells p (words_of text)
  words_spell text p t = subst (λ ws. spells p ws) (sym (words_same t.0 text (plainly p t.0 t.1) t.2)) t.1

  text_spells : (p : Parts) (ws : List Bytes) → spells p ws → (words_of (joined ws) ≡ ws) × IsText p (joined ws)
  text_spells p ws s = (words_same ws (joined ws) (plainly p ws s) refl, (ws, s, refl))

  one_left_out : (text : Bytes) (p : Parts) (front back : List Bytes) → IsText p text → words_of text ≡ front ++ (default_word ∷ back)
      → (words_of (joined (front ++ back)) ≡ front ++ back) × IsText p (joined (front ++ back))
  one_left_out text p front back t e = text_spells p (front ++ back) (leaves p (words_of text) front back (words_spell text p t) e)

  never_alone : (p : Parts) → IsText p default_word → ⊥
  never_alone p t =
      let n = plainly p [] (leaves p (words_of default_word) [] [] (words_spell default_word p t) refl) in
      let some = n.some in
      absurd (omega arith)

  left_out : (longer shorter : Bytes) (p : Parts) → TextLeavesOut longer shorter → IsText p longer → IsText p shorter
  left_out longer shorter p l t =
      let s = leaves p (words_of longer) l.0 l.1 (words_spell longer p t) l.2 in
      (l.0 ++ l.1, s, sym (join_with_byte-slice_split 0x20 shorter) ∙ ap joined l.3)

  put_in : (longer shorter : Bytes) (p q : Parts) → TextLeavesOut longer shorter → IsText p shorter → IsText q longer → p ≡ q
  put_in longer shorter p q l s t =
      some_same p q (sym (again p (words_of shorter) (words_spell shorter p s)) ∙ again q (words_of shorter) (words_spell shorter q (left_out longer shorter q l t)))

  strip_step : (p : Parts) (front : List Bytes) (w : Bytes) (ws : List Bytes) (b : Bool) → bytes_eq w default_word ≡ b → ((f : List Bytes) → spells p (f ++ ws) → spells p (f ++ filter is_other ws))
      → spells p (front ++ (w ∷ ws)) → spells p (front ++ cond (not b) (w ∷ filter is_other ws) (filter is_other ws))
  strip_step p front w ws true e rest h = rest front (leaves p (front ++ (w ∷ ws)) front ws h (ap (λ x. front ++ (x ∷ ws)) ((bytes_eq-Decides w default_word).0 e)))
  strip_step p front w ws false e rest h =
      subst (λ x. spells p x) (append_assoc front (w ∷ []) (filter is_other ws)) (rest (front ++ (w ∷ [])) (subst (λ x. spells p x) (sym (append_assoc front (w ∷ []) ws)) h))

  -- all of them left out, one after the other
  strip : (p : Parts) (front ws : List Bytes) → spells p (front ++ ws) → spells p (front ++ filter is_other ws)
  strip p front [] h = h
  strip p front (w ∷ ws) h = strip_step p front w ws (bytes_eq w default_word) refl (λ f s. strip p f ws s) h

  all_left_out : (text : Bytes) (p : Parts) → IsText p text → (words_of (joined (without_default text)) ≡ without_default text) × IsText p (joined (without_default text))
  all_left_out text p t = text_spells p (without_default text) (strip p [] (words_of text) (words_spell text p t))

  none_is_left : (text : Bytes) (p : Parts) → IsText p text → HasDefault (joined (without_default text)) → ⊥
  none_is_left text p t h =
      not_among default_word (without_default text) h.0 h.1 (list_all-filter is_other (words_of text)) (sym (all_left_out text p t).0 ∙ h.2)

  pub leaving_out : LeavingOut IsText
  leaving_out = record {
    never_alone = never_alone;
    one_left_out = one_left_out;
    left_out = left_out;
    put_in = put_in;
    all_left_out = all_left_out;
    none_is_left = none_is_left;
  }

pub value_leaving_out : LeavingOut DateValueText
value_leaving_out = leaving_out SpellsValue value_at value_again value_plainly value_leaves

pub period_leaving_out : LeavingOut PeriodText
period_leaving_out = leaving_out SpellsPeriod period_at period_again period_plainly period_leaves

kept_step : (w : Bytes) (ws : List Bytes) (b : Bool) → bytes_eq w default_word ≡ b → ((front back : List Bytes) → w ∷ ws ≡ front ++ (default_word ∷ back) → ⊥) → filter is_other ws ≡ ws
    → cond (not b) (w ∷ filter is_other ws) (filter is_other ws) ≡ w ∷ ws
kept_step w ws true e none rest = absurd (none [] ws (ap (λ x. x ∷ ws) ((bytes_eq-Decides w default_word).0 e)))
kept_step w ws false e none rest = ap (λ x. w ∷ x) rest

-- words without GREGORIAN are kept
kept : (ws : List Bytes) → ((front back : List Bytes) → ws ≡ front ++ (default_word ∷ back) → ⊥) → filter is_other ws ≡ ws
kept [] none = refl
kept (w ∷ ws) none =
    kept_step w ws (bytes_eq w default_word) refl none (kept ws (λ front back e. none (w ∷ front) back (ap (λ x. w ∷ x) e)))

pub nothing_left_out : NothingLeftOut
nothing_left_out text none = ap joined (kept (words_of text) (λ front back e. none (front, back, e))) ∙ join_with_byte-slice_split 0x20 text

-- with the calendar's word and without
pub two_texts : TwoTexts
two_texts d v g = ((default_word ∷ date_words d, (v, inl (ap (λ c. calendar_word c ∷ date_words d) (sym g))), refl), (date_words d, (v, inr (g, refl)), refl))
