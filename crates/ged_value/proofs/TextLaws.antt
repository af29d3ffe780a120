-- From words to texts.
use Rattle.std.proofs.Common.{◌≡◌, ◌≢◌, ℕ, suc, ◌≤◌, ◌<◌, false, not, List, [], ◌∷◌, ◌++◌, length, get_or, Option, Some, None, refl, sym, ap, ◌∙◌, arith, length-append}
use Rattle.std.specs.Prelude.{codes, ◌==◌}
use Rattle.std.specs.Option.{option_map}
use Rattle.std.proofs.lemmas.Bool.{ne_eqb, or_from, and_parts, and_from, or_parts}
use Rattle.std.proofs.lemmas.List.Splits.{join_with_byte-slice_split}
use Rattle.ged_value.specs.Words.{Bytes, words_of, joined}
use Rattle.ged_value.specs.Dates.{DateParts, SpellsDate}
use Rattle.ged_value.specs.Reading.{Reads}
use Rattle.ged_value.specs.Values.{PeriodParts, empty, to, from, from_to, ValueParts, span, plain, between, after, before, about, calculated, estimated, Behind, BothBehind, SpellsPeriod, SpellsValue}
use Rattle.ged_value.proofs.DateLaws.{nots, date_again, some_same}
use Rattle.ged_value.proofs.Foreign.{Lack, has_space, space_lacks, few_words}
use Rattle.ged_value.proofs.ValueLaws.{none_some}

split_word : (w rest : Bytes) → has_space w ≡ false → words_of (w ++ (32 ∷ rest)) ≡ w ∷ words_of rest
split_word [] rest h = refl
split_word (b ∷ bs) rest h =
    let p = or_parts (b == 32) (has_space bs) h in
    rw (p.0, split_word bs rest p.1) refl

pub split_end : (w : Bytes) → has_space w ≡ false → words_of w ≡ w ∷ []
split_end [] h = refl
split_end (b ∷ bs) h =
    let p = or_parts (b == 32) (has_space bs) h in
    rw (p.0, split_end bs p.1) refl

-- the words of what words without spaces make
pub words_again : (w : Bytes) (ws : List Bytes) → Lack has_space (w ∷ ws) → words_of (joined (w ∷ ws)) ≡ w ∷ ws
words_again w [] h = split_end w (nots (has_space w) (and_parts _ _ h).0)
words_again w (v ∷ vs) h =
    let p = and_parts (not (has_space w)) _ h in
    split_word w (joined (v ∷ vs)) (nots (has_space w) p.0) ∙ ap (λ x. w ∷ x) (words_again v vs p.1)

pub lack_join : (left right : List Bytes) → Lack has_space left → Lack has_space right → Lack has_space (left ++ right)
lack_join [] right l r = r
lack_join (w ∷ ws) right l r = let p = and_parts (not (has_space w)) _ l in and_from _ _ p.0 (lack_join ws right p.1 r)

-- words of a value: not none, at most twelve, and without spaces
pub record Plainly (ws : List Bytes) : Type 0 where
  pub some : 0 < length ws
  pub few : length ws ≤ 12
  pub spaceless : Lack has_space ws

behind_plainly : (k : Bytes) → has_space k ≡ false → (d : DateParts) (ws : List Bytes) → Behind k d ws → Plainly ws
behind_plainly k n d ws h = rw h.2 (record {
  some = omega arith;
  few = omega (arith, few_words d h.0 h.1);
  spaceless = and_from (not (has_space k)) _ (rw n refl) (space_lacks d h.0 h.1);
})

both_plainly : (k l : Bytes) → has_space k ≡ false → has_space l ≡ false → (d e : DateParts) (ws : List Bytes) → BothBehind k d l e ws → Plainly ws
both_plainly k l n m d e ws h = rw h.4 (record {
  some = omega arith;
  few = omega (arith, few_words d h.0 h.2, few_words e h.1 h.3, length-append h.0 (l ∷ h.1));
  spaceless = and_from (not (has_space k)) _ (rw n refl) (lack_join h.0 (l ∷ h.1) (space_lacks d h.0 h.2) (and_from (not (has_space l)) _ (rw m refl) (space_lacks e h.1 h.3)));
})

date_plainly : (d : DateParts) (ws : List Bytes) → SpellsDate d ws → Plainly ws
date_plainly d [] h = absurd (none_some (date_again d [] h))
date_plainly d (w ∷ ws) h = record { some = omega arith; few = omega (arith, few_words d (w ∷ ws) h); spaceless = space_lacks d (w ∷ ws) h }

pub period_plainly : (p : PeriodParts) (ws : List Bytes) → SpellsPeriod p ws → Plainly ws
period_plainly empty ws h = rw h (record { some = omega arith; few = omega arith; spaceless = refl })
period_plainly (to d) ws h = behind_plainly (codes "TO") refl d ws h
period_plainly (from d) ws h = behind_plainly (codes "FROM") refl d ws h
period_plainly (from_to d e) ws h = both_plainly (codes "FROM") (codes "TO") refl refl d e ws h

pub value_plainly : (v : ValueParts) (ws : List Bytes) → SpellsValue v ws → Plainly ws
value_plainly (span p) ws h = period_plainly p ws h
value_plainly (plain d) ws h = date_plainly d ws h
value_plainly (between d e) ws h = both_plainly (codes "BET") (codes "AND") refl refl d e ws h
value_plainly (after d) ws h = behind_plainly (codes "AFT") refl d ws h
value_plainly (before d) ws h = behind_plainly (codes "BEF") refl d ws h
value_plainly (about d) ws h = behind_plainly (codes "ABT") refl d ws h
value_plainly (calculated d) ws h = behind_plainly (codes "CAL") refl d ws h
value_plainly (estimated d) ws h = behind_plainly (codes "EST") refl d ws h

-- the words of a text that such words make are these words
pub words_same : (ws : List Bytes) (text : Bytes) → Plainly ws → text ≡ joined ws → words_of text ≡ ws
words_same [] text p e = let some = p.some in absurd (omega arith)
words_same (w ∷ ws) text p e = rw e (words_again w ws p.spaceless)

-- a reader that reads the words of a text, reads the text
module _ {X Y : Type 0} (view : X → Y) (spells : Y → List Bytes → Type 0) (read : List Bytes → Option Y)
    (again : (y : Y) (ws : List Bytes) → spells y ws → read ws ≡ Some y)
    (found : (y : Y) (ws : List Bytes) → read ws ≡ Some y → spells y ws)
    (plainly : (y : Y) (ws : List Bytes) → spells y ws → Plainly ws) where
  pub reads_text : (text : Bytes) (r : Option X) → option_map view r ≡ read (words_of text) → Reads r view (λ y. (ws : List Bytes) × spells y ws × (text ≡ joined ws))
  reads_text text None e = λ y s. none_some (e ∙ ap read (words_same s.0 text (plainly y s.0 s.1) s.2) ∙ again y s.0 s.1)
  reads_text text (Some x) e = (words_of text, found (view x) (words_of text) (sym e), sym (join_with_byte-slice_split 32 text))

  pub too_many : (text : Bytes) → 12 < length (words_of text) → Reads None view (λ y. (ws : List Bytes) × spells y ws × (text ≡ joined ws))
  too_many text many = λ y s.
      let p = plainly y s.0 s.1 in
      let few = p.few in
      let e : length (words_of text) ≡ length s.0 = ap length (words_same s.0 text p s.2) in
      absurd (omega arith)

  -- a text has at most one reading
  pub one_reading : (text : Bytes) (x y : Y) → ((ws : List Bytes) × spells x ws × (text ≡ joined ws)) → ((ws : List Bytes) × spells y ws × (text ≡ joined ws)) → Some x ≡ Some y
  one_reading text x y s t =
      sym (again x s.0 s.1) ∙ ap read (sym (words_same s.0 text (plainly x s.0 s.1) s.2) ∙ words_same t.0 text (plainly y t.0 t.1) t.2) ∙ again y t.0 t.1

  -- the same of the parts
  pub only_reading : (text : Bytes) (x y : Y) → ((ws : List Bytes) × spells x ws × (text ≡ joined ws)) → ((ws : List Bytes) × spells y ws × (text ≡ joined ws)) → x ≡ y
  only_reading text x y s t = some_same x y (one_reading text x y s t)

pub no_space_at : (w : Bytes) → ((i : ℕ) → i < length w → get_or w i 0 ≢ 32) → has_space w ≡ false
no_space_at [] h = refl
no_space_at (b ∷ bs) h = or_from _ _ (ne_eqb b 32 (h 0 (omega arith))) (no_space_at bs (λ i l. h (suc i) (omega arith)))
