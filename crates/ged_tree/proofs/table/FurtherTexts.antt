-- The text that a line gives a payload stands at the line's end.
use Rattle.std.proofs.Common.{◌≡◌, ℕ, ◌+◌, ◌-◌, ◌<◌, ◌≤◌, ◌==◌, [], ◌∷◌, ◌++◌, Option, Some, None, length, take, drop, get_or, decimal, refl, sym, subst, ◌∙◌, ap, arith, inl, inr, append_assoc, append-nil, length-append}
use Rattle.std.specs.Prelude.{IfSome}
use Rattle.std.specs.Str.{IsUtf8, IsCharBoundary}
use Rattle.std.proofs.lemmas.Bool.{cases_lt}
use Rattle.std.proofs.lemmas.List.{drop-drop, drop-take, drop_at, get_or-drop, get_or-take}
use Rattle.std.proofs.lemmas.Str.{IsCharBoundary-at_seam}
use Rattle.ged_line.specs.Bytes.{Bytes}
use Rattle.ged_line.specs.Lines.{LineParts, xref_part, Value, Empty, Void, Pointer, Text}
use Rattle.ged_line.specs.inner.LineTexts.{IsValuePart}
use Rattle.ged_line.specs.Spelling.{LineText}
use Rattle.ged_line.proofs.CallerLemmas.{in_parts}
use Rattle.ged_tree.specs.inner.Tables.{line_text, IsSliceAt}
use Rattle.ged_tree.proofs.theory.LineParts.{bool_cases}

value_ends : (v : Value) (part : Bytes) → IsValuePart v part → (front : Bytes) × (part ≡ front ++ line_text v)
value_ends Empty part e = (part, sym (append-nil part))
value_ends Void part e = (part, sym (append-nil part))
value_ends (Pointer name) part e = (part, sym (append-nil part))
value_ends (Text []) part e = (part, sym (append-nil part))
value_ends (Text (c ∷ cs)) part e = elim (bool_cases (c == 64)) [
  | inl s ↦ (32 ∷ 64 ∷ [], rw s at e)
  | inr n ↦ (32 ∷ [], rw n at e)
]

pub text_ends : (line : LineParts) (bytes : Bytes) → LineText line bytes → (front : Bytes) × (bytes ≡ front ++ line_text line.value)
text_ends line bytes whole =
    let t = in_parts line bytes whole in
    let last = value_ends line.value t.value_part t.value in
    let front = last.0 in
    let text = line_text line.value in
    let tagged : line.tag ++ t.value_part ≡ (line.tag ++ front) ++ text = ap (λ (bs : Bytes). line.tag ++ bs) last.1 ∙ sym (append_assoc line.tag front text) in
    let named : xref_part line.xref ++ (line.tag ++ t.value_part) ≡ (xref_part line.xref ++ (line.tag ++ front)) ++ text =
    ap (λ (bs : Bytes). xref_part line.xref ++ bs) tagged ∙ sym (append_assoc (xref_part line.xref) (line.tag ++ front) text) in (
      decimal line.level ++ 32 ∷ (xref_part line.xref ++ (line.tag ++ front)),
      t.spelled ∙ ap (λ (bs : Bytes). decimal line.level ++ 32 ∷ bs) named ∙ sym (append_assoc (decimal line.level) (32 ∷ (xref_part line.xref ++ (line.tag ++ front))) text),
    )

-- so it is no longer than the line, and where the line is a slice of a file, it is one too
module _ (bytes front text : Bytes) (whole : bytes ≡ front ++ text) where
  size : length bytes ≡ length front + length text
  size = ap (λ (bs : Bytes). length bs) whole ∙ length-append front text

  pub text_fits : length text ≤ length bytes
  text_fits = omega (arith, size)

  module _ (file : Bytes) (at : ℕ) (slice : IsSliceAt file at bytes) (utf8 : IsUtf8 text) where
    byte_is : length front < length bytes → get_or file (at + length front) 0 ≡ get_or bytes (length front) 0
    byte_is h = sym (get_or-drop at file (length front) 0) ∙ sym (get_or-take (length bytes) (drop at file) (length front) 0 h) ∙ ap (λ (bs : Bytes). get_or bs (length front) 0) slice.text_is

    begins : IsCharBoundary file (at + length front)
    begins = elim (cases_lt (length front) (length bytes)) [
      | inl h ↦ (
          let inside = IsCharBoundary-at_seam bytes front text whole utf8 in
          let same = byte_is h in
          (omega (arith, slice.ends.0, h), λ l a. (let high = inside.1 h (omega (arith, a, same)) in omega (arith, high, same))))
      | inr h ↦ subst (λ (n : ℕ). IsCharBoundary file n) (let e : at + length bytes ≡ at + length front = omega (arith, h, size) in e) slice.ends
    ]

    text_slice : IsSliceAt file (at + length front) text
    text_slice = record {
      begins = begins;
      ends = subst (λ (n : ℕ). IsCharBoundary file n) (let e : at + length bytes ≡ (at + length front) + length text = omega (arith, size) in e) slice.ends;
      text_is =
          ap (λ (bs : Bytes). take (length text) bs) (ap (λ (k : ℕ). drop k file) (let e : at + length front ≡ at + length front = refl in e) ∙ sym (drop-drop (length front) at file))
          ∙ sym (drop-take (length front) (length text) (drop at file))
          ∙ ap (λ (n : ℕ). drop (length front) (take n (drop at file))) (sym size)
          ∙ ap (λ (bs : Bytes). drop (length front) bs) (slice.text_is ∙ whole)
          ∙ drop_at front text (length front) refl;
    }

    pub told_slice : (there : Option ℕ) → there ≡ Some (at + (length bytes - length text)) → IfSome there (λ n. IsSliceAt file n text)
    told_slice there e =
        let behind : at + length front ≡ at + (length bytes - length text) = omega (arith, size) in
        rw e (subst (λ (n : ℕ). IsSliceAt file n text) behind text_slice)

    pub told_fits : at + (length bytes - length text) ≤ length file
    told_fits = omega (arith, size, slice.ends.0)

-- the place of a line's text, where that of the line is told
pub text_told : (line : LineParts) (bytes text file : Bytes) (start there : Option ℕ) → LineText line bytes → text ≡ line_text line.value → IsUtf8 text → IfSome start (λ at. IsSliceAt file at bytes)
    → IfSome start (λ at. there ≡ Some (at + (length bytes - length text))) → (start ≡ None → there ≡ None) → IfSome there (λ n. IsSliceAt file n text)
text_told line bytes text file None there t is u slice told untold = rw (untold refl) tt
text_told line bytes text file (Some at) there t is u slice told untold =
    let ends = text_ends line bytes t in
    told_slice bytes ends.0 text (ends.1 ∙ ap (λ (bs : Bytes). ends.0 ++ bs) (sym is)) file at slice u there told
