-- Lines made as brief as their place lets them.
use Rattle.std.proofs.Common.{◌≡◌, ◌≢◌, Bool, true, false, cond, ◌&&◌, List, [], ◌∷◌, ◌++◌, map, filter, Option, Some, None, refl, sym, ap, ◌∙◌, subst, ◌⊎◌, inl, inr, append_assoc}
use Rattle.std.specs.Prelude.{not}
use Rattle.std.specs.List.{AllByRecursion}
use Rattle.std.specs.Str.{bytes_eq}
use Rattle.std.proofs.lemmas.Bool.{true≢false, false≢true, and_parts, and_from, false_from_ne_true}
use Rattle.std.proofs.lemmas.Bool.Decides.{Decides-eqb}
use Rattle.std.proofs.lemmas.List.{map-append}
use Rattle.std.proofs.lemmas.List.Elements.{filter-append}
use Rattle.std.proofs.lemmas.List.Splits.{join_with_byte-slice_split}
use Rattle.ged_line.specs.Bytes.{Bytes}
use Rattle.ged_tree.specs.declared.payload.Payload.{Payload}
use Rattle.ged_tree.specs.declared.payload.Payload.TheVariants.{Void, Pointer, Text}
use Rattle.ged_value.specs.declared.kind.Kind.{Kind}
use Rattle.ged_value.specs.declared.kind.Kind.TheVariants.{DateValue, DatePeriod}
use Rattle.ged_value.specs.Words.{words_of, joined}
use Rattle.ged_value.specs.Default.{default_word, is_other}
use Rattle.ged_value.specs.Zeros.{begins_with_digit, has_leading_zero, trim_zeros, LeavesOutZero}
use Rattle.ged_value.specs.Kinds.{FitsLine}
use Rattle.ged_value.proofs.CallerLemmas.{value_leaving_out, period_leaving_out, fitting_without_zeros}
use Rattle.ged_schema.specs.Rows.{Row}
use Rattle.ged_schema.specs.Payloads.{FitsRow}
use Rattle.ged_canon.specs.declared.edition.Edition.{Edition}
use Rattle.ged_canon.specs.declared.edition.Edition.TheVariants.{First, Second}
use Rattle.ged_canon.specs.Steps.{has_calendar, Shortened, calendar, leading_zero, Respelt, respelt, Chain, done, then}
use Rattle.ged_canon.specs.inner.StepParts.{is_dated, is_numeric}
use Rattle.ged_canon.specs.Normal.{IsBrief, IsBriefPayload}
use Rattle.ged_canon.specs.inner.Working.{kept_words, is_second, trimmed_words, brief_words, brief_line, brief}
use Rattle.ged_canon.proofs.theory.Texts.{same_bytes, equal_bytes}
use Rattle.ged_canon.proofs.theory.Chains.{both, under}

-- whether leading zeros are left out
abbrev pub trims : Edition → Option Row → Bool
trims edition r = is_second edition && is_numeric r

pub second_is : (edition : Edition) → is_second edition ≡ true → edition ≡ Second
second_is First e = absurd (false≢true e)
second_is Second e = refl

pub trims_from : (edition : Edition) (r : Option Row) → edition ≡ Second → is_numeric r ≡ true → trims edition r ≡ true
trims_from edition r second numeric = and_from (is_second edition) (is_numeric r) (ap is_second second) numeric

-- Words.

-- a word that begins with a digit is not GREGORIAN
other_digit : (word : Bytes) → begins_with_digit word ≡ true → is_other word ≡ true
other_digit word d = ap not (false_from_ne_true (bytes_eq word default_word) (λ e. false≢true (ap begins_with_digit (sym (equal_bytes word default_word e)) ∙ d)))

trim_one : (word : Bytes) → begins_with_digit word ≡ true → trim_zeros (48 ∷ word) ≡ trim_zeros word
trim_one word d = rw d

other_kept : (word : Bytes) (ws : List Bytes) → is_other word ≡ true → filter is_other (word ∷ ws) ≡ word ∷ filter is_other ws
other_kept word ws e = rw e

other_dropped : (word : Bytes) (ws : List Bytes) → is_other word ≡ false → filter is_other (word ∷ ws) ≡ filter is_other ws
other_dropped word ws e = rw e

-- Two spellings of a line have one brief line.

kept_around : (r : Option Row) (front back : List Bytes) (word : Bytes) → is_other word ≡ true → kept_words r (front ++ word ∷ back) ≡ kept_words r front ++ word ∷ kept_words r back
kept_around r front back word e = by (is_dated r)
  where
    by : (t : Bool) → cond t (filter is_other (front ++ word ∷ back)) (front ++ word ∷ back) ≡ cond t (filter is_other front) front ++ word ∷ cond t (filter is_other back) back
    by true = filter-append is_other front (word ∷ back) ∙ ap (λ ws. filter is_other front ++ ws) (other_kept word back e)
    by false = refl

pub brief_alike : (edition : Edition) (r : Option Row) (longer shorter : Bytes) → Shortened edition r longer shorter → brief_line edition r longer ≡ brief_line edition r shorter
brief_alike edition r longer shorter (calendar dated h) = ap (λ ws. joined (trimmed_words edition r ws)) (ap (kept_words r) h.2 ∙ by (is_dated r) dated ∙ sym (ap (kept_words r) h.3))
  where
    by : (t : Bool) → t ≡ true → cond t (filter is_other (h.0 ++ default_word ∷ h.1)) (h.0 ++ default_word ∷ h.1) ≡ cond t (filter is_other (h.0 ++ h.1)) (h.0 ++ h.1)
    by true e = filter-append is_other h.0 (default_word ∷ h.1) ∙ sym (filter-append is_other h.0 h.1)
    by false e = absurd (false≢true e)
brief_alike edition r longer shorter (leading_zero second numeric h) = ap joined (by (trims edition r) (trims_from edition r second numeric))
  where
    front : List Bytes
    front = kept_words r h.0

    back : List Bytes
    back = kept_words r h.2

    long : kept_words r (words_of longer) ≡ front ++ (48 ∷ h.1) ∷ back
    long = ap (kept_words r) h.4 ∙ kept_around r h.0 h.2 (48 ∷ h.1) (other_digit (48 ∷ h.1) refl)

    short : kept_words r (words_of shorter) ≡ front ++ h.1 ∷ back
    short = ap (kept_words r) h.5 ∙ kept_around r h.0 h.2 h.1 (other_digit h.1 h.3)

    by : (t : Bool) → t ≡ true → cond t (map trim_zeros (kept_words r (words_of longer))) (kept_words r (words_of longer)) ≡ cond t (map trim_zeros (kept_words r (words_of shorter))) (kept_words r (words_of shorter))
    by true e =
        ap (map trim_zeros) long ∙ map-append trim_zeros front ((48 ∷ h.1) ∷ back)
        ∙ ap (λ w. map trim_zeros front ++ w ∷ map trim_zeros back) (trim_one h.1 h.3)
        ∙ sym (ap (map trim_zeros) short ∙ map-append trim_zeros front (h.1 ∷ back))
    by false e = absurd (false≢true e)

-- A brief line is its own.

all_other : (ws : List Bytes) → AllByRecursion (λ word. word ≢ default_word) ws → filter is_other ws ≡ ws
all_other [] h = refl
all_other (w ∷ ws) h =
    other_kept w ws (ap not (false_from_ne_true (bytes_eq w default_word) (λ e. h.0 (equal_bytes w default_word e))))
    ∙ ap (λ vs. w ∷ vs) (all_other ws h.1)

pub trim_same : (word : Bytes) → has_leading_zero word ≡ false → trim_zeros word ≡ word
trim_same [] e = refl
trim_same (b ∷ bs) e = rw e

all_trimmed : (ws : List Bytes) → AllByRecursion (λ word. has_leading_zero word ≡ false) ws → map trim_zeros ws ≡ ws
all_trimmed [] h = refl
all_trimmed (w ∷ ws) h = λ i. trim_same w h.0 i ∷ all_trimmed ws h.1 i

pub brief_same : (edition : Edition) (r : Option Row) (line : Bytes) → IsBrief edition r line → brief_line edition r line ≡ line
brief_same edition r line h = ap joined (ap (trimmed_words edition r) (dropped (is_dated r) refl) ∙ trimmed (trims edition r) refl) ∙ join_with_byte-slice_split 32 line
  where
    dropped : (t : Bool) → is_dated r ≡ t → cond t (filter is_other (words_of line)) (words_of line) ≡ words_of line
    dropped true e = all_other (words_of line) (h.no_calendar e)
    dropped false e = refl

    trimmed : (t : Bool) → trims edition r ≡ t → cond t (map trim_zeros (words_of line)) (words_of line) ≡ words_of line
    trimmed true e = let p = and_parts (is_second edition) (is_numeric r) e in all_trimmed (words_of line) (h.no_leading_zero (second_is edition p.0) p.1)
    trimmed false e = refl

pub brief_payload_same : (edition : Edition) (r : Option Row) (p : Payload) → IsBriefPayload edition r p → brief edition r p ≡ p
brief_payload_same edition r Void h = refl
brief_payload_same edition r (Pointer name) h = refl
brief_payload_same edition r (Text []) h = refl
brief_payload_same edition r (Text (line ∷ [])) h = ap (λ l. Text (l ∷ [])) (brief_same edition r line h)
brief_payload_same edition r (Text (line ∷ next ∷ lines)) h = refl

-- What is left of a line of a kind is of the kind.

-- a line of some words that is of the kind
abbrev LineOf : Kind → List Bytes → Type 0
LineOf kind ws = (line : Bytes) × (words_of line ≡ ws) × FitsLine kind line

without_word : (kind : Kind) (line : Bytes) (front back : List Bytes) → has_calendar kind ≡ true → FitsLine kind line → words_of line ≡ front ++ default_word ∷ back → LineOf kind (front ++ back)
without_word DateValue line front back h fits e = let k = value_leaving_out.one_left_out line fits.0 front back fits.1 e in (joined (front ++ back), k.0, (fits.0, k.1))
without_word DatePeriod line front back h fits e = let k = period_leaving_out.one_left_out line fits.0 front back fits.1 e in (joined (front ++ back), k.0, (fits.0, k.1))
without_word _ line front back h fits e = absurd (false≢true h)

-- A brief line is reached.

pub record Shorter (edition : Edition) (r : Option Row) (longer shorter : Bytes) : Type 0 where
  pub out : Shortened edition r longer shorter
  pub longer_fits : FitsRow r (Text (longer ∷ []))
  pub shorter_fits : FitsRow r (Text (shorter ∷ []))

-- from a line one comes to a line of the kind whose words are these
abbrev Reaches : Edition → Row → Bytes → List Bytes → Type 0
Reaches edition r line ws = (short : Bytes) × Chain (Shorter edition (Some r)) line short × (words_of short ≡ ws) × FitsLine r.kind short

module _ (edition : Edition) (r : Row) where
  drop_words : is_dated (Some r) ≡ true → (front ws : List Bytes) (line : Bytes) → words_of line ≡ front ++ ws → FitsLine r.kind line → Reaches edition r line (front ++ filter is_other ws)
  drop_words dated front [] line e fits = (line, done, e, fits)
  drop_words dated front (w ∷ ws) line e fits = by (bytes_eq w default_word) refl (λ short k f. drop_words dated front ws short k f) (drop_words dated (front ++ w ∷ []) ws line (e ∙ sym (append_assoc front (w ∷ []) ws)) fits)
    where
      by : (t : Bool) → bytes_eq w default_word ≡ t → ((short : Bytes) → words_of short ≡ front ++ ws → FitsLine r.kind short → Reaches edition r short (front ++ filter is_other ws)) → Reaches edition r line ((front ++ w ∷ []) ++ filter is_other ws) → Reaches edition r line (front ++ cond (not t) (w ∷ filter is_other ws) (filter is_other ws))
      by false g f k = (k.0, k.1, k.2 ∙ append_assoc front (w ∷ []) (filter is_other ws), k.3)
      by true g f k =
          let e' : words_of line ≡ front ++ default_word ∷ ws = e ∙ ap (λ v. front ++ v ∷ ws) (equal_bytes w default_word g) in
          let s = without_word r.kind line front ws dated fits e' in
          let t = f s.0 s.1 s.2 in
          (t.0, then (record { out = calendar dated (front, ws, e', s.1); longer_fits = fits; shorter_fits = s.2 }) t.1, t.2, t.3)

  module _ (second : edition ≡ Second) (numeric : is_numeric (Some r) ≡ true) where
    trim_word : (front back : List Bytes) (w line : Bytes) → words_of line ≡ front ++ w ∷ back → FitsLine r.kind line → Reaches edition r line (front ++ trim_zeros w ∷ back)
    trim_word front back [] line e fits = (line, done, e, fits)
    trim_word front back (b ∷ bs) line e fits = by (has_leading_zero (b ∷ bs)) refl (λ short k f. trim_word front back bs short k f)
      where
        by : (t : Bool) → has_leading_zero (b ∷ bs) ≡ t → ((short : Bytes) → words_of short ≡ front ++ bs ∷ back → FitsLine r.kind short → Reaches edition r short (front ++ trim_zeros bs ∷ back)) → Reaches edition r line (front ++ cond t (trim_zeros bs) (b ∷ bs) ∷ back)
        by false g f = (line, done, e, fits)
        by true g f =
            let l = and_parts _ _ g in
            let e' : words_of line ≡ front ++ (48 ∷ bs) ∷ back = e ∙ ap (λ x. front ++ (x ∷ bs) ∷ back) ((Decides-eqb b 48).0 l.0) in
            let s = (fitting_without_zeros r.kind numeric).one_left_out line (front ++ bs ∷ back) fits (front, bs, back, l.1, e', refl) in
            let t = f (joined (front ++ bs ∷ back)) s.0 s.1 in
            let zero : LeavesOutZero (words_of line) (words_of (joined (front ++ bs ∷ back))) = (front, bs, back, l.1, e', s.0) in
            (t.0, then (record { out = leading_zero second numeric zero; longer_fits = fits; shorter_fits = s.1 }) t.1, t.2, t.3)

    trim_words : (front ws : List Bytes) (line : Bytes) → words_of line ≡ front ++ ws → FitsLine r.kind line → Reaches edition r line (front ++ map trim_zeros ws)
    trim_words front [] line e fits = (line, done, e, fits)
    trim_words front (w ∷ ws) line e fits =
        let a = trim_word front ws w line e fits in
        let b = trim_words (front ++ trim_zeros w ∷ []) ws a.0 (a.2 ∙ sym (append_assoc front (trim_zeros w ∷ []) ws)) a.3 in
        (b.0, both a.1 b.1, b.2 ∙ append_assoc front (trim_zeros w ∷ []) (map trim_zeros ws), b.3)

  kept_reached : (line : Bytes) → FitsLine r.kind line → Reaches edition r line (kept_words (Some r) (words_of line))
  kept_reached line fits = by (is_dated (Some r)) refl
    where
      by : (t : Bool) → is_dated (Some r) ≡ t → Reaches edition r line (cond t (filter is_other (words_of line)) (words_of line))
      by true dated = drop_words dated [] (words_of line) line refl fits
      by false dated = (line, done, refl, fits)

  trimmed_reached : (ws : List Bytes) (line : Bytes) → words_of line ≡ ws → FitsLine r.kind line → Reaches edition r line (trimmed_words edition (Some r) ws)
  trimmed_reached ws line e fits = by (trims edition (Some r)) refl
    where
      by : (t : Bool) → trims edition (Some r) ≡ t → Reaches edition r line (cond t (map trim_zeros ws) ws)
      by true g = let p = and_parts (is_second edition) (is_numeric (Some r)) g in trim_words (second_is edition p.0) p.1 [] ws line e fits
      by false g = (line, done, e, fits)

  reaches_brief : (line : Bytes) → FitsLine r.kind line → Chain (Shorter edition (Some r)) line (brief_line edition (Some r) line) × (words_of (brief_line edition (Some r) line) ≡ brief_words edition (Some r) (words_of line))
  reaches_brief line fits =
      let a = kept_reached line fits in
      let b = trimmed_reached (kept_words (Some r) (words_of line)) a.0 a.2 a.3 in
      let e : b.0 ≡ brief_line edition (Some r) line = sym (join_with_byte-slice_split 32 b.0) ∙ ap joined b.2 in
      (both a.1 (subst (Chain (Shorter edition (Some r)) a.0) e b.1), ap words_of (sym e) ∙ b.2)

-- What is reached is brief.

filter_other : (ws : List Bytes) → AllByRecursion (λ word. word ≢ default_word) (filter is_other ws)
filter_other [] = tt
filter_other (w ∷ ws) = by (bytes_eq w default_word) refl (filter_other ws)
  where
    by : (t : Bool) → bytes_eq w default_word ≡ t → AllByRecursion (λ word. word ≢ default_word) (filter is_other ws) → AllByRecursion (λ word. word ≢ default_word) (cond (not t) (w ∷ filter is_other ws) (filter is_other ws))
    by true e h = h
    by false e h = ((λ p. true≢false (sym (same_bytes w default_word p) ∙ e)), h)

-- a trimmed word is the word, or begins with a digit
trim_cases : (w : Bytes) → (trim_zeros w ≡ w) ⊎ (begins_with_digit (trim_zeros w) ≡ true)
trim_cases [] = inl refl
trim_cases (b ∷ bs) = by (has_leading_zero (b ∷ bs)) refl (trim_cases bs)
  where
    by : (t : Bool) → has_leading_zero (b ∷ bs) ≡ t → (trim_zeros bs ≡ bs) ⊎ (begins_with_digit (trim_zeros bs) ≡ true) → (cond t (trim_zeros bs) (b ∷ bs) ≡ b ∷ bs) ⊎ (begins_with_digit (cond t (trim_zeros bs) (b ∷ bs)) ≡ true)
    by true e (inl k) = inr (ap begins_with_digit k ∙ (and_parts _ _ e).1)
    by true e (inr k) = inr k
    by false e h = inl refl

pub trimmed_none : (w : Bytes) → has_leading_zero (trim_zeros w) ≡ false
trimmed_none [] = refl
trimmed_none (b ∷ bs) = by (has_leading_zero (b ∷ bs)) refl (trimmed_none bs)
  where
    by : (t : Bool) → has_leading_zero (b ∷ bs) ≡ t → has_leading_zero (trim_zeros bs) ≡ false → has_leading_zero (cond t (trim_zeros bs) (b ∷ bs)) ≡ false
    by true e h = h
    by false e h = e

all_trimmed_none : (ws : List Bytes) → AllByRecursion (λ word. has_leading_zero word ≡ false) (map trim_zeros ws)
all_trimmed_none [] = tt
all_trimmed_none (w ∷ ws) = (trimmed_none w, all_trimmed_none ws)

trimmed_other : (w : Bytes) → w ≢ default_word → trim_zeros w ≢ default_word
trimmed_other w h e = elim (trim_cases w) [
  | inl k ↦ h (sym k ∙ e)
  | inr k ↦ false≢true (ap begins_with_digit (sym e) ∙ k)
]

all_trimmed_other : (ws : List Bytes) → AllByRecursion (λ word. word ≢ default_word) ws → AllByRecursion (λ word. word ≢ default_word) (map trim_zeros ws)
all_trimmed_other [] h = tt
all_trimmed_other (w ∷ ws) h = (trimmed_other w h.0, all_trimmed_other ws h.1)

words_brief : (edition : Edition) (r : Option Row) (line : Bytes) (ws : List Bytes) → words_of line ≡ brief_words edition r ws → IsBrief edition r line
words_brief edition r line ws e = record {
  no_calendar = λ dated. subst (AllByRecursion (λ word. word ≢ default_word)) (sym e) (without (trims edition r) (is_dated r) dated);
  no_leading_zero = λ second numeric. subst (AllByRecursion (λ word. has_leading_zero word ≡ false)) (sym e) (trimmed (trims edition r) (trims_from edition r second numeric));
}
  where
    without : (t d : Bool) → d ≡ true → AllByRecursion (λ word. word ≢ default_word) (cond t (map trim_zeros (cond d (filter is_other ws) ws)) (cond d (filter is_other ws) ws))
    without t false h = absurd (false≢true h)
    without true true h = all_trimmed_other (filter is_other ws) (filter_other ws)
    without false true h = filter_other ws

    trimmed : (t : Bool) → t ≡ true → AllByRecursion (λ word. has_leading_zero word ≡ false) (cond t (map trim_zeros (kept_words r ws)) (kept_words r ws))
    trimmed true h = all_trimmed_none (kept_words r ws)
    trimmed false h = absurd (false≢true h)

-- Payloads.

-- where there is no row, each line is brief
pub brief_anyway : (edition : Edition) (line : Bytes) → IsBrief edition None line
brief_anyway edition line = record { no_calendar = λ e. absurd (false≢true e); no_leading_zero = λ s e. absurd (false≢true e) }

module _ (edition : Edition) where
  pub payload_chain : (r : Option Row) (p : Payload) → FitsRow r p → Chain (Respelt edition r) p (brief edition r p)
  payload_chain r Void fits = done
  payload_chain r (Pointer name) fits = done
  payload_chain r (Text []) fits = done
  payload_chain None (Text (line ∷ [])) fits = subst (λ l. Chain (Respelt edition None) (Text (line ∷ [])) (Text (l ∷ []))) (sym (brief_same edition None line (brief_anyway edition line))) done
  payload_chain (Some r) (Text (line ∷ [])) fits = under (λ l. Text (l ∷ [])) (λ a b s. respelt a b s.out s.longer_fits s.shorter_fits) (reaches_brief edition r line fits).0
  payload_chain r (Text (line ∷ next ∷ lines)) fits = done

  pub brief_is_brief : (r : Option Row) (p : Payload) → FitsRow r p → IsBriefPayload edition r (brief edition r p)
  brief_is_brief r Void fits = tt
  brief_is_brief r (Pointer name) fits = tt
  brief_is_brief r (Text []) fits = tt
  brief_is_brief None (Text (line ∷ [])) fits = brief_anyway edition (brief_line edition None line)
  brief_is_brief (Some r) (Text (line ∷ [])) fits = words_brief edition (Some r) (brief_line edition (Some r) line) (words_of line) (reaches_brief edition r line fits).1
  brief_is_brief r (Text (line ∷ next ∷ lines)) fits = tt
