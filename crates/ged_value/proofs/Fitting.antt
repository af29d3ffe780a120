-- A text is of a kind or it is not.
use Rattle.std.proofs.Common.{◌≡◌, ℕ, zero, suc, ◌<◌, Bool, true, false, [], ◌∷◌, ◌++◌, length, inl, inr, Option, Some, None, refl, sym, ap, subst, ◌∙◌, arith, append-nil, codes}
use Rattle.std.specs.Prelude.{◌↔◌, ◌⊎◌, IsTrue}
use Rattle.std.specs.Option.{option_map}
use Rattle.std.proofs.lemmas.Bool.{false≢true, false_from_ne_true}
use Rattle.std.specs.Str.{bytes_eq}
use Rattle.std.proofs.lemmas.Slice.Eq.{bytes_eq-Decides}
use Rattle.ged_value.specs.Words.{Bytes, words_of, is_integer}
use Rattle.ged_value.specs.Reading.{Reads}
use Rattle.ged_value.specs.inner.Cuts.{cut_at, marked}
use Rattle.ged_value.specs.Times.{TimeText}
use Rattle.ged_value.specs.Names.{NameText}
use Rattle.ged_value.specs.Exact.{SpellsExact, ExactText}
use Rattle.ged_value.specs.Values.{SpellsValue, SpellsPeriod, DateValueText, PeriodText}
use Rattle.ged_value.specs.Ages.{AgeParts, AgeText}
use Rattle.ged_value.specs.Enumerations.{sexes, pedigrees, statuses, name_types, restrictions, is_of_set, is_of_any_set}
use Rattle.ged_value.specs.inner.ValueReading.{value_at, period_at}
use Rattle.ged_value.specs.inner.ExactReading.{exact_at}
use Rattle.ged_value.specs.inner.TimeReading.{time_at}
use Rattle.ged_value.specs.inner.AgeReading.{no_age, age_at}
use Rattle.ged_value.specs.inner.NameReading.{name_at}
use Rattle.ged_value.specs.inner.RestrictionReading.{AreRestrictions, trim_start, trim_end}
use Rattle.ged_value.specs.Kinds.{IsVersion, FitsLine}
use Rattle.ged_value.specs.declared.kind.Kind.{Kind}
use Rattle.ged_value.specs.declared.kind.Kind.TheVariants as kinds
use Rattle.ged_value.proofs.ReadingLaws.{reads}
use Rattle.ged_value.proofs.TextLaws.{reads_text, value_plainly, period_plainly}
use Rattle.ged_value.proofs.ValueLaws.{value_again, value_found, period_again, period_found}
use Rattle.ged_value.proofs.ExactLaws.{exact_again, exact_found, exact_plainly}
use Rattle.ged_value.proofs.TimeLaws.{time_again, time_found}
use Rattle.ged_value.proofs.NameLaws.{name_again, name_found}
use Rattle.ged_value.proofs.AgeLaws.{reads_age}
use Rattle.ged_value.proofs.CutLaws.{cut_joined}
use Rattle.ged_value.proofs.RestrictionLaws.{lone, refused, shorter, cut_shorter}

-- it is so or it is not
abbrev IsDecided : Type 0 → Type 0
IsDecided P = P ⊎ (P → ⊥)

both_decided : {P Q : Type 0} → IsDecided P → IsDecided Q → IsDecided (P × Q)
both_decided (inl p) (inl q) = inl (p, q)
both_decided (inl p) (inr n) = inr (λ h. n h.1)
both_decided (inr n) q = inr (λ h. n h.0)

one_decided : {P Q : Type 0} → IsDecided P → IsDecided Q → IsDecided (P ⊎ Q)
one_decided (inl p) q = inl (inl p)
one_decided (inr n) (inl q) = inl (inr q)
one_decided (inr n) (inr m) = inr (λ h. elim h [ inl p ↦ n p | inr q ↦ m q ])

true_decided : (b : Bool) → IsDecided (b ≡ true)
true_decided true = inl refl
true_decided false = inr (λ h. false≢true h)

same_or_other : (a b : Bytes) → IsDecided (a ≡ b)
same_or_other a b = elim (true_decided (bytes_eq a b)) [
  | inl same ↦ inl ((bytes_eq-Decides a b).0 same)
  | inr other ↦ inr (λ e. other ((bytes_eq-Decides a b).1 e))
]

same_decided : {P Q : Type 0} → P ↔ Q → IsDecided P → IsDecided Q
same_decided same (inl p) = inl (same.0 p)
same_decided same (inr n) = inr (λ q. n (same.1 q))

-- a reader decides
read_decided : {Y : Type 0} (P : Y → Type 0) (r : Option Y) → Reads r (λ y. y) P → IsDecided ((y : Y) × P y)
read_decided P None h = inr (λ y. h y.0 y.1)
read_decided P (Some y) h = inl (y, h)

same_option : {Y : Type 0} (o : Option Y) → option_map (λ y. y) o ≡ o
same_option None = refl
same_option (Some y) = refl

age_decided : (text : Bytes) → IsDecided ((age : AgeParts) × AgeText age text)
age_decided [] = inl (no_age, inl (refl, refl))
age_decided (b ∷ bs) =
    read_decided (λ age. AgeText age (b ∷ bs)) (age_at (words_of (b ∷ bs)))
    (reads_age (λ age. age) (b ∷ bs) (age_at (words_of (b ∷ bs))) (omega arith) (same_option (age_at (words_of (b ∷ bs)))))

abbrev rest_of : Bytes → Bytes
rest_of [] = []
rest_of (b ∷ bs) = bs

-- the text behind its first four bytes
abbrev behind_four : Bytes → Bytes
behind_four text = rest_of (rest_of (rest_of (rest_of text)))

version_decided : (text : Bytes) → IsDecided (IsVersion text)
version_decided text = one_decided (same_or_other text (codes "7.0"))
    (go (both_decided (true_decided (is_integer (behind_four text))) (same_or_other text (codes "7.0." ++ behind_four text))))
  where
    go : IsDecided (IsTrue (is_integer (behind_four text)) × (text ≡ codes "7.0." ++ behind_four text))
        → IsDecided ((digits : Bytes) × IsTrue (is_integer digits) × (text ≡ codes "7.0." ++ digits))
    go (inl h) = inl (behind_four text, h.0, h.1)
    go (inr n) = inr (λ h.
        let same : behind_four text ≡ h.0 = ap behind_four h.2 in
        n (rw same (h.1, h.2)))

restrictions_decided : (most : ℕ) (text : Bytes) → length text < most → IsDecided (AreRestrictions text)
restrictions_decided zero text few = absurd (omega (arith, few))
restrictions_decided (suc most) text few = go (cut_at 44 text).0 (cut_at 44 text).1 refl (λ rest shorter_rest. restrictions_decided most rest shorter_rest)
  where
    go : (item : Bytes) (others : Option Bytes) → cut_at 44 text ≡ (item, others) → ((rest : Bytes) → length rest < most → IsDecided (AreRestrictions rest)) → IsDecided (AreRestrictions text)
    go item None cuts later =
        let whole : text ≡ item = cut_joined 44 text ∙ ap (λ (p : Bytes × Option Bytes). p.0 ++ marked 44 p.1) cuts ∙ append-nil item in
        let alone : cut_at 44 text ≡ (text, None) = subst (λ (x : Bytes). cut_at 44 text ≡ (x, None)) (sym whole) cuts in
        same_decided (lone text alone) (true_decided (is_of_set restrictions text))
    go item (Some others) cuts later =
        let whole : text ≡ item ++ (44 ∷ others) = cut_joined 44 text ∙ ap (λ (p : Bytes × Option Bytes). p.0 ++ marked 44 p.1) cuts in
        elim (true_decided (is_of_set restrictions (trim_end item))) [
          | inr other ↦ inr (refused text item others cuts (false_from_ne_true _ other))
          | inl first ↦ same_decided (shorter text item others cuts first) (later (trim_start others) (omega (arith, few, cut_shorter text item others whole)))
        ]

pub line_decided : (kind : Kind) (text : Bytes) → FitsLine kind text ⊎ (FitsLine kind text → ⊥)
line_decided kinds.Nothing text = same_or_other text []
line_decided kinds.Text text = inl tt
line_decided kinds.Free text = inl tt
line_decided kinds.EventFlag text = one_decided (same_or_other text []) (same_or_other text (codes "Y"))
line_decided kinds.Integer text = true_decided (is_integer text)
line_decided kinds.Version text = version_decided text
line_decided kinds.DateValue text =
    read_decided (λ value. DateValueText value text) (value_at (words_of text))
    (reads_text (λ value. value) SpellsValue value_at value_again value_found value_plainly text (value_at (words_of text)) (same_option (value_at (words_of text))))
line_decided kinds.DatePeriod text =
    read_decided (λ period. PeriodText period text) (period_at (words_of text))
    (reads_text (λ period. period) SpellsPeriod period_at period_again period_found period_plainly text (period_at (words_of text)) (same_option (period_at (words_of text))))
line_decided kinds.DateExact text =
    read_decided (λ date. ExactText date text) (exact_at (words_of text))
    (reads_text (λ date. date) SpellsExact exact_at exact_again exact_found exact_plainly text (exact_at (words_of text)) (same_option (exact_at (words_of text))))
line_decided kinds.Time text = read_decided (λ time. TimeText time text) (time_at text) (reads (λ time. time) TimeText time_at time_again time_found text (time_at text) (same_option (time_at text)))
line_decided kinds.Age text = age_decided text
line_decided kinds.Name text = read_decided (λ name. NameText name text) (name_at text) (reads (λ name. name) NameText name_at name_again name_found text (name_at text) (same_option (name_at text)))
line_decided kinds.EnumAny text = true_decided (is_of_any_set text)
line_decided kinds.SexEnum text = true_decided (is_of_set sexes text)
line_decided kinds.PediEnum text = true_decided (is_of_set pedigrees text)
line_decided kinds.StatEnum text = true_decided (is_of_set statuses text)
line_decided kinds.NameTypeEnum text = true_decided (is_of_set name_types text)
line_decided kinds.ResnList text = restrictions_decided (suc (length text)) text (omega arith)
line_decided kinds.ToFam text = inr (λ h. h)
line_decided kinds.ToIndi text = inr (λ h. h)
line_decided kinds.ToSubm text = inr (λ h. h)
line_decided kinds.ToSnote text = inr (λ h. h)
line_decided kinds.ToSour text = inr (λ h. h)
line_decided kinds.ToObje text = inr (λ h. h)
