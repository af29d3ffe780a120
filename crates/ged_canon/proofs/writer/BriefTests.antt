-- What the test of a brief line says.
use Rattle.std.proofs.Common.{◌≡◌, ◌≢◌, ℕ, Bool, true, false, cond, ◌&&◌, List, [], ◌∷◌, Option, refl, sym, ap, ◌∙◌}
use Rattle.std.specs.Prelude.{not, ◌||◌, ◌==◌}
use Rattle.std.specs.List.{AllByRecursion, list_all, list_any, onto_first}
use Rattle.std.specs.Str.{bytes_eq}
use Rattle.std.proofs.lemmas.Bool.{true≢false, false≢true, and_parts, and_from}
use Rattle.ged_line.specs.Bytes.{Bytes}
use Rattle.ged_value.specs.Words.{words_of}
use Rattle.ged_value.specs.Default.{default_word}
use Rattle.ged_value.specs.Zeros.{has_leading_zero, trim_zeros}
use Rattle.ged_schema.specs.Rows.{Row}
use Rattle.ged_canon.specs.declared.edition.Edition.{Edition}
use Rattle.ged_canon.specs.inner.StepParts.{is_dated, is_numeric}
use Rattle.ged_canon.specs.Normal.{IsBrief}
use Rattle.ged_canon.specs.inner.Working.{is_second, is_brief_word}
use Rattle.ged_canon.proofs.theory.Texts.{same_bytes, equal_bytes, other_bytes}
use Rattle.ged_canon.proofs.theory.Brief.{trims, trims_from, second_is, trim_same, trimmed_none}

-- a word has a leading zero exactly where it isn't its trimmed word
pub trimmed_differs : (word : Bytes) → not (bytes_eq (trim_zeros word) word) ≡ has_leading_zero word
trimmed_differs word = by (has_leading_zero word) refl
  where
    by : (b : Bool) → has_leading_zero word ≡ b → not (bytes_eq (trim_zeros word) word) ≡ b
    by true e = ap not (other_bytes (trim_zeros word) word (λ same. true≢false (sym e ∙ ap has_leading_zero (sym same) ∙ trimmed_none word)))
    by false e = ap not (same_bytes (trim_zeros word) word (trim_same word e))

module _ (dated numeric : Bool) where
  no_calendar_word : dated ≡ true → (word : Bytes) → is_brief_word dated numeric word ≡ true → word ≢ default_word
  no_calendar_word d word h same = by dated d (bytes_eq word default_word) (same_bytes word default_word same) (and_parts _ _ h).0
    where
      by : (a : Bool) → a ≡ true → (b : Bool) → b ≡ true → not (a && b) ≡ true → ⊥
      by true p true q e = false≢true e
      by true p false q e = false≢true q
      by false p b q e = false≢true p

  no_zero_word : numeric ≡ true → (word : Bytes) → is_brief_word dated numeric word ≡ true → has_leading_zero word ≡ false
  no_zero_word n word h = by numeric n (has_leading_zero word) (and_parts _ _ h).1
    where
      by : (a : Bool) → a ≡ true → (b : Bool) → not (a && b) ≡ true → b ≡ false
      by true p true e = absurd (false≢true e)
      by a p false e = refl
      by false p true e = absurd (false≢true p)

  word_brief : (word : Bytes) → (dated ≡ true → word ≢ default_word) → (numeric ≡ true → has_leading_zero word ≡ false) → is_brief_word dated numeric word ≡ true
  word_brief word p q = and_from _ _ (by dated (bytes_eq word default_word) (λ d e. p d (equal_bytes word default_word e))) (by numeric (has_leading_zero word) (λ n e. false≢true (sym (q n) ∙ e)))
    where
      by : (a b : Bool) → (a ≡ true → b ≡ true → ⊥) → not (a && b) ≡ true
      by true true f = absurd (f refl refl)
      by true false f = refl
      by false b f = refl

  words_without_calendar : dated ≡ true → (ws : List Bytes) → list_all (is_brief_word dated numeric) ws ≡ true → AllByRecursion (λ word. word ≢ default_word) ws
  words_without_calendar d [] h = tt
  words_without_calendar d (w ∷ ws) h = let p = and_parts (is_brief_word dated numeric w) _ h in (no_calendar_word d w p.0, words_without_calendar d ws p.1)

  words_without_zeros : numeric ≡ true → (ws : List Bytes) → list_all (is_brief_word dated numeric) ws ≡ true → AllByRecursion (λ word. has_leading_zero word ≡ false) ws
  words_without_zeros n [] h = tt
  words_without_zeros n (w ∷ ws) h = let p = and_parts (is_brief_word dated numeric w) _ h in (no_zero_word n w p.0, words_without_zeros n ws p.1)

  words_brief : (ws : List Bytes) → (dated ≡ true → AllByRecursion (λ word. word ≢ default_word) ws) → (numeric ≡ true → AllByRecursion (λ word. has_leading_zero word ≡ false) ws) → list_all (is_brief_word dated numeric) ws ≡ true
  words_brief [] p q = refl
  words_brief (w ∷ ws) p q = and_from _ _ (word_brief w (λ d. (p d).0) (λ n. (q n).0)) (words_brief ws (λ d. (p d).1) (λ n. (q n).1))

-- where nothing is left out, each word stays
pub all_brief : (dated numeric : Bool) → dated ≡ false → numeric ≡ false → (ws : List Bytes) → list_all (is_brief_word dated numeric) ws ≡ true
all_brief true numeric p q ws = absurd (true≢false p)
all_brief false true p q ws = absurd (true≢false q)
all_brief false false p q [] = refl
all_brief false false p q (w ∷ ws) = all_brief false false refl refl ws

module _ (edition : Edition) (r : Option Row) (line : Bytes) where
  pub brief_from : list_all (is_brief_word (is_dated r) (trims edition r)) (words_of line) ≡ true → IsBrief edition r line
  brief_from h = record {
    no_calendar = λ d. words_without_calendar (is_dated r) (trims edition r) d (words_of line) h;
    no_leading_zero = λ second n. words_without_zeros (is_dated r) (trims edition r) (trims_from edition r second n) (words_of line) h;
  }

  pub from_brief : IsBrief edition r line → list_all (is_brief_word (is_dated r) (trims edition r)) (words_of line) ≡ true
  from_brief h =
      words_brief (is_dated r) (trims edition r) (words_of line) h.no_calendar
      (λ t. let p = and_parts (is_second edition) (is_numeric r) t in h.no_leading_zero (second_is edition p.0) p.1)

-- Words without a G.

abbrev lacks : Bytes → Bool
lacks word = not (list_any (λ b. b == 0x47) word)

lacks_more : (x : ℕ) (w : Bytes) → (x == 0x47) ≡ false → lacks w ≡ true → lacks (x ∷ w) ≡ true
lacks_more x w e h = ap (λ t. not (t || list_any (λ b. b == 0x47) w)) e ∙ h

onto_lacks : (x : ℕ) (ws : List Bytes) → (x == 0x47) ≡ false → list_all lacks ws ≡ true → list_all lacks (onto_first x ws) ≡ true
onto_lacks x [] e h = and_from (lacks (x ∷ [])) true (lacks_more x [] e refl) refl
onto_lacks x (w ∷ ws) e h = let p = and_parts (lacks w) (list_all lacks ws) h in and_from (lacks (x ∷ w)) (list_all lacks ws) (lacks_more x w e p.0) p.1

words_lack : (line : Bytes) → lacks line ≡ true → list_all lacks (words_of line) ≡ true
words_lack [] h = refl
words_lack (x ∷ xs) h = by (x == 0x20) (x == 0x47) refl h (words_lack xs)
  where
    by : (s t : Bool) → (x == 0x47) ≡ t → not (t || list_any (λ b. b == 0x47) xs) ≡ true → (lacks xs ≡ true → list_all lacks (words_of xs) ≡ true)
        → list_all lacks (cond s ([] ∷ words_of xs) (onto_first x (words_of xs))) ≡ true
    by s true e k rest = absurd (false≢true k)
    by true false e k rest = rest k
    by false false e k rest = onto_lacks x (words_of xs) e (rest k)

lacking_brief : (word : Bytes) → lacks word ≡ true → is_brief_word true false word ≡ true
lacking_brief word h = word_brief true false word (λ d same. false≢true (sym (ap lacks same) ∙ h)) (λ n. absurd (false≢true n))

all_lacking : (dated : Bool) (ws : List Bytes) → list_all lacks ws ≡ true → list_all (is_brief_word dated false) ws ≡ true
all_lacking dated [] h = refl
all_lacking true (w ∷ ws) h = let p = and_parts (lacks w) (list_all lacks ws) h in and_from (is_brief_word true false w) _ (lacking_brief w p.0) (all_lacking true ws p.1)
all_lacking false (w ∷ ws) h = let p = and_parts (lacks w) (list_all lacks ws) h in all_lacking false ws p.1

-- no word of a line without a G is GREGORIAN
pub brief_without_g : (dated numeric : Bool) (line : Bytes) → numeric ≡ false → list_any (λ b. b == 0x47) line ≡ false → list_all (is_brief_word dated numeric) (words_of line) ≡ true
brief_without_g dated numeric line n e = ap (λ t. list_all (is_brief_word dated t) (words_of line)) n ∙ all_lacking dated (words_of line) (words_lack line (ap not e))
