-- The payload that stands behind a tag, looked at byte by byte.
use Rattle.std.proofs.Common.{◌≡◌, ℕ, ◌+◌, ◌-◌, ◌<◌, ◌≤◌, ◌==◌, true, false, [], ◌∷◌, ◌++◌, length, drop, take, get_or, codes, refl, sym, ◌∙◌, ap, arith, inl, inr, length-append}
use Rattle.std.proofs.lemmas.Bool.{true≢false}
use Rattle.std.proofs.lemmas.Bool.Decides.{nat_tests}
use Rattle.std.specs.Str.{IsCharBoundary, bytes_eq}
use Rattle.ged_line.specs.Bytes.{Bytes}
use Rattle.ged_line.specs.Lines.{is_value, Value, Empty, Void, Pointer, Text}
use Rattle.ged_line.specs.inner.LineTexts.{IsValuePart}
use Rattle.ged_line.proofs.CallerLemmas.{part_ends, xref_each}
use Rattle.ged_tree.proofs.theory.LineParts.{bool_cases}
use Rattle.ged_tree.specs.Spelled.{shown_value, shown_pointer}
use Rattle.ged_tree.specs.DocumentLines.{line_value}
use Rattle.ged_tree.proofs.table.SpelledTexts.{value_shown, pointer_shown}
use Rattle.ged_tree.proofs.table.Tags.{BeginsAscii, begins_characters, middle_boundary, last_boundary, middle_is, middle_fits}

pub is_sign : (c : ℕ) → c ≡ 64 → (c == 64) ≡ true
is_sign c h = grind (arith, nat_tests)

no_sign : (c : ℕ) → ¬ (c ≡ 64) → (c == 64) ≡ false
no_sign c h = grind (arith, nat_tests)

pub empty_part : (part : Bytes) → length part < 2 → shown_value part ≡ Empty
empty_part [] h = refl
empty_part (s ∷ []) h = refl
empty_part (s ∷ c ∷ cs) h = absurd (omega arith)

pub first_is_space : (value : Value) (part : Bytes) → IsValuePart value part → 1 ≤ length part → get_or part 0 0 ≡ 32
first_is_space value part v h = elim (part_ends value part v) [
  | inl e ↦ absurd (let size = ap (λ (bs : Bytes). length bs) e in omega (arith, h, size))
  | inr (more, e) ↦ ap (λ (bs : Bytes). get_or bs 0 0) e
]

-- a text whose sign is doubled
pub signed_part : (part : Bytes) → 3 ≤ length part → get_or part 1 0 ≡ 64 → get_or part 2 0 ≡ 64 → line_value (drop 2 part) ≡ shown_value part
signed_part [] h f g = absurd (omega arith)
signed_part (s ∷ []) h f g = absurd (omega arith)
signed_part (s ∷ c ∷ []) h f g = absurd (omega arith)
signed_part (s ∷ c ∷ d ∷ ds) h f g = rw (is_sign c f, is_sign d g) refl

-- a text without a sign
pub plain_part : (part : Bytes) → 2 ≤ length part → ¬ (get_or part 1 0 ≡ 64) → line_value (drop 1 part) ≡ shown_value part
plain_part [] h f = absurd (omega arith)
plain_part (s ∷ []) h f = absurd (omega arith)
plain_part (s ∷ c ∷ []) h f = refl
plain_part (s ∷ c ∷ d ∷ ds) h f = rw (no_sign c f) refl

-- the name of a pointer, or of the void one
pub record HasReference (part : Bytes) : Type 0 where
  pub name : Bytes
  pub spelled : part ≡ (32 ∷ 64 ∷ []) ++ (name ++ (64 ∷ []))
  pub ascii : BeginsAscii (name ++ (64 ∷ []))
  pub shown : shown_value part ≡ shown_pointer name

pub has_reference : (value : Value) (part : Bytes) → is_value value ≡ true → IsValuePart value part → 2 ≤ length part → get_or part 1 0 ≡ 64 → ¬ (get_or part 2 0 ≡ 64) → HasReference part
has_reference Empty part i (inl e) h f g = absurd (let size = ap (λ (bs : Bytes). length bs) e in omega (arith, h, size))
has_reference Empty part i (inr e) h f g = absurd (let size = ap (λ (bs : Bytes). length bs) e in omega (arith, h, size))
has_reference Void part i e h f g = record { name = codes "VOID"; spelled = e; ascii = omega arith; shown = value_shown Void part i e }
has_reference (Pointer name) part i e h f g =
    let low : BeginsAscii (64 ∷ []) = omega arith in
    record { name = name; spelled = e; ascii = begins_characters name (64 ∷ []) (xref_each name i) low; shown = value_shown (Pointer name) part i e ∙ sym (pointer_shown name i) }
has_reference (Text []) part i e h f g = absurd (true≢false (sym i))
has_reference (Text (c ∷ cs)) part i e h f g = elim (bool_cases (c == 64)) [
  | inl s ↦ (
      let both : part ≡ 32 ∷ 64 ∷ c ∷ cs = rw s at e in
      let is : c ≡ 64 = grind (arith, nat_tests) in
      absurd (g (ap (λ (bs : Bytes). get_or bs 2 0) both ∙ is)))
  | inr n ↦ (
      let one : part ≡ 32 ∷ c ∷ cs = rw n at e in
      let is : c ≡ 64 = sym (ap (λ (bs : Bytes). get_or bs 1 0) one) ∙ f in
      absurd (true≢false (sym (is_sign c is) ∙ n)))
]

module _ (part : Bytes) (r : HasReference part) where
  size : length part ≡ 2 + length r.name + 1
  size = (let whole = ap (λ (bs : Bytes). length bs) r.spelled in omega (arith, whole, length-append r.name (64 ∷ [])))

  to : length part - 1 ≡ length {A = ℕ} (32 ∷ 64 ∷ []) + length r.name
  to = omega (arith, size)

  from : 2 ≡ length {A = ℕ} (32 ∷ 64 ∷ [])
  from = refl

  low : BeginsAscii (64 ∷ [])
  low = omega arith

  pub name_begins : IsCharBoundary part 2
  name_begins = middle_boundary part (32 ∷ 64 ∷ []) r.name (64 ∷ []) r.spelled 2 (length part - 1) from to r.ascii

  pub name_ends : IsCharBoundary part (length part - 1)
  name_ends = last_boundary part (32 ∷ 64 ∷ []) r.name (64 ∷ []) r.spelled 2 (length part - 1) from to low

  pub name_within : (2 ≤ length part - 1) × (length part - 1 ≤ length part)
  name_within = middle_fits part (32 ∷ 64 ∷ []) r.name (64 ∷ []) r.spelled 2 (length part - 1) from to

  pub name_is : take (length part - 1 - 2) (drop 2 part) ≡ r.name
  name_is = middle_is part (32 ∷ 64 ∷ []) r.name (64 ∷ []) r.spelled 2 (length part - 1) from to

pub other_name : (name : Bytes) → bytes_eq name (codes "VOID") ≡ false → shown_pointer name ≡ Pointer name
other_name name h = rw h refl
