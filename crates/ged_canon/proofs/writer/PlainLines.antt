-- Lines that are written as they stand, whatever the context.
use Rattle.std.proofs.Common.{◌≡◌, ℕ, ◌+◌, Bool, true, false, cond, List, [], ◌∷◌, ◌++◌, map, Option, None, length, refl, sym, ap, ◌∙◌, ◌⊎◌, inl, inr, codes, decimal, arith}
use Rattle.std.specs.Prelude.{◌==◌, ◌||◌, ◌<◌, ◌↔◌, IsTrue}
use Rattle.std.specs.Bool.{Decides}
use Rattle.std.specs.List.{list_any}
use Rattle.std.specs.Str.{bytes_eq}
use Rattle.std.proofs.lemmas.Fmt.{decimal_digit}
use Rattle.std.proofs.lemmas.Slice.Eq.{bytes_eq-Decides}
use Rattle.std.proofs.lemmas.Bool.{or_parts, true≢false, cases_lt}
use Rattle.ged_line.specs.Bytes.{Bytes}
use Rattle.ged_line.specs.Lines.{LineParts, line_parts, xref_part}
use Rattle.ged_line.specs.Spelling.{value_part, spelled_lines}
use Rattle.ged_tree.specs.declared.payload.Payload.{Payload}
use Rattle.ged_tree.specs.declared.payload.Payload.TheVariants.{Void, Pointer, Text}
use Rattle.ged_tree.specs.Trees.{further_lines}
use Rattle.ged_tree.specs.DocumentLines.{line_value, first_value, structure_lines}
use Rattle.ged_tree.specs.Views.{is_pointer}
use Rattle.ged_schema.specs.declared.context.Context.{Context}
use Rattle.ged_schema.specs.Rows.{Row}
use Rattle.ged_schema.specs.Tables.{row}
use Rattle.ged_canon.specs.declared.edition.Edition.{Edition}
use Rattle.ged_canon.specs.declared.edition.Edition.TheVariants.{First}
use Rattle.ged_canon.specs.Steps.{renamed_payload}
use Rattle.ged_canon.specs.inner.StepParts.{is_dated}
use Rattle.ged_canon.specs.inner.Working.{brief}
use Rattle.ged_canon.specs.inner.Writing.{may_be_dated}
use Rattle.ged_canon.proofs.theory.Brief.{trims, brief_payload_same}
use Rattle.ged_canon.proofs.writer.BriefTests.{brief_from, brief_without_g}
use Rattle.ged_canon.proofs.writer.DatedRows.{plain_row}
use Rattle.ged_canon.proofs.writer.OwnLines.{unshortened, value_kept}

-- Bytes without a G.

abbrev has_g : Bytes → Bool
has_g bytes = list_any (λ b. b == 71) bytes

behind_lacks : (front bytes : Bytes) → has_g (front ++ bytes) ≡ false → has_g bytes ≡ false
behind_lacks [] bytes h = h
behind_lacks (b ∷ bs) bytes h = behind_lacks bs bytes (or_parts (b == 71) (has_g (bs ++ bytes)) h).1

front_lacks : (bytes behind : Bytes) → has_g (bytes ++ behind) ≡ false → has_g bytes ≡ false
front_lacks [] behind h = refl
front_lacks (b ∷ bs) behind h =
    let parts = or_parts (b == 71) (has_g (bs ++ behind)) h in
    ap (λ t. t || has_g bs) parts.0 ∙ front_lacks bs behind parts.1

-- so a line without one has none behind its level
pub level_lacks : (level : ℕ) (bytes line : Bytes) → line ≡ (decimal level ++ 32 ∷ bytes) ++ 10 ∷ [] → has_g line ≡ false → has_g bytes ≡ false
level_lacks level bytes line is h = behind_lacks (decimal level) (32 ∷ bytes) (front_lacks (decimal level ++ 32 ∷ bytes) (10 ∷ []) (ap has_g (sym is) ∙ h))

-- a line whose tag begins with other letters
pub undated : (level : ℕ) (tag rest line : Bytes) → level < 10 → line ≡ (decimal level ++ 32 ∷ (tag ++ rest)) ++ 10 ∷ []
    → ((a b : ℕ) (more : Bytes) → line ≡ a ∷ b ∷ 68 ∷ 65 ∷ more → ⊥) → ((a b : ℕ) (more : Bytes) → line ≡ a ∷ b ∷ 83 ∷ 68 ∷ more → ⊥)
    → may_be_dated tag ≡ false
undated level tag rest line digit is date sdate =
    go (bytes_eq tag (codes "DATE")) (bytes_eq tag (codes "SDATE")) refl refl (bytes_eq-Decides tag (codes "DATE")) (bytes_eq-Decides tag (codes "SDATE"))
  where
    shown : (letters : Bytes) → tag ≡ letters → line ≡ (48 + level) ∷ 32 ∷ ((letters ++ rest) ++ 10 ∷ [])
    shown letters e = is ∙ ap (λ ds. (ds ++ 32 ∷ (tag ++ rest)) ++ 10 ∷ []) (decimal_digit level digit) ∙ ap (λ t. (48 + level) ∷ 32 ∷ ((t ++ rest) ++ 10 ∷ [])) e

    go : (one other : Bool) → bytes_eq tag (codes "DATE") ≡ one → bytes_eq tag (codes "SDATE") ≡ other → Decides one (tag ≡ codes "DATE") → Decides other (tag ≡ codes "SDATE")
        → may_be_dated tag ≡ false
    go true other e f d g = absurd (date (48 + level) 32 (84 ∷ 69 ∷ (rest ++ 10 ∷ [])) (shown (codes "DATE") (d.0 refl)))
    go false true e f d g = absurd (sdate (48 + level) 32 (65 ∷ 84 ∷ 69 ∷ (rest ++ 10 ∷ [])) (shown (codes "SDATE") (g.0 refl)))
    go false false e f d g = ap (λ t. t || bytes_eq tag (codes "SDATE")) e ∙ f

line_lacks : (line : Bytes) → has_g (value_part (line_value line)) ≡ false → has_g line ≡ false
line_lacks [] h = refl
line_lacks (c ∷ cs) h = by (c == 64) h
  where
    by : (b : Bool) → has_g (cond b (64 ∷ c ∷ cs) (c ∷ cs)) ≡ false → has_g (c ∷ cs) ≡ false
    by true e = e
    by false e = e

-- Payloads that stay as they are.

brief_by_row : (r : Option Row) (p : Payload) → is_dated r ≡ false → brief First r p ≡ p
brief_by_row r p e = unshortened First r p (ap (λ t. t || false) e)

brief_by_line : (r : Option Row) (p : Payload) → has_g (value_part (first_value p)) ≡ false → brief First r p ≡ p
brief_by_line r Void h = refl
brief_by_line r (Pointer name) h = refl
brief_by_line r (Text []) h = refl
brief_by_line r (Text (line ∷ [])) h =
    brief_payload_same First r (Text (line ∷ [])) (brief_from First r line (brief_without_g (is_dated r) (trims First r) line refl (line_lacks line h)))
brief_by_line r (Text (line ∷ next ∷ lines)) h = refl

-- what stands on a line from its tag on tells that its payload stays
abbrev pub TellsPlain : Bytes → Bytes → Type 0
TellsPlain tag rest = (may_be_dated tag ≡ false) ⊎ (has_g rest ≡ false)

pub plain_brief : (edition : Edition) (context : Context) (tag rest : Bytes) (p : Payload) → edition ≡ First → rest ≡ tag ++ value_part (first_value p) → TellsPlain tag rest
    → brief edition (row context tag) p ≡ p
plain_brief edition context tag rest p first is (inl undated) = ap (λ e. brief e (row context tag) p) first ∙ brief_by_row (row context tag) p (plain_row tag undated context)
plain_brief edition context tag rest p first is (inr lacks) =
    ap (λ e. brief e (row context tag) p) first
    ∙ brief_by_line (row context tag) p (behind_lacks tag (value_part (first_value p)) (ap has_g (sym is) ∙ lacks))

-- The lines of a structure that has only one.

module _ (edition : Edition) (r : Option Row) (new : Bytes → Bytes) (level : ℕ) (xref : Option Bytes) (tag : Bytes) where
  abbrev lines_with : Payload → List LineParts
  lines_with p = structure_lines level (record { xref = xref; tag = tag; payload = p })

  nothing : (lines : List Bytes) → length lines ≡ 0 → lines ≡ []
  nothing [] e = refl
  nothing (line ∷ lines) e = absurd (omega (arith, e))

  pub plain_line : (p : Payload) (rest : Bytes) → is_pointer p ≡ false → length (further_lines p) ≡ 0 → brief edition r p ≡ p → rest ≡ tag ++ value_part (first_value p)
      → (decimal level ++ 32 ∷ (xref_part xref ++ rest)) ++ 10 ∷ [] ≡ spelled_lines (lines_with (renamed_payload new (brief edition r p)))
  plain_line p rest value few same is =
      ap (λ x. (decimal level ++ 32 ∷ (xref_part xref ++ x)) ++ 10 ∷ []) is
      ∙ ap (λ further. spelled_lines (line_parts level xref tag (first_value p) ∷ map (λ line. line_parts (level + 1) None (codes "CONT") (line_value line)) further)) (sym (nothing (further_lines p) few))
      ∙ ap (λ q. spelled_lines (lines_with q)) (sym (ap (renamed_payload new) same ∙ value_kept new p value))

-- where it is told that there are no further lines, there is none
pub none_further : (count : ℕ) (goes_on : Bool) → (IsTrue goes_on ↔ (0 < count)) → goes_on ≡ false → count ≡ 0
none_further count goes_on told off = elim (cases_lt 0 count) [
  | inl some ↦ absurd (true≢false (sym (told.1 some) ∙ off))
  | inr few ↦ omega (arith, few)
]
