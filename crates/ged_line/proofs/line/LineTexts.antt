-- The text of a line, whole and in parts.
use Rattle.std.proofs.Common.{◌≡◌, [], ◌∷◌, ◌++◌, ◌⊎◌, inl, inr, refl, sym, ◌∙◌, ap, subst, decimal}
use Rattle.std.proofs.lemmas.List.{append-nil, append_assoc}
use Rattle.ged_line.specs.Bytes.{Bytes}
use Rattle.ged_line.specs.Lines.{LineParts, Value, Empty, Void, Pointer, Text, xref_part}
use Rattle.ged_line.specs.Spelling.{spelling, value_part, LineText}
use Rattle.ged_line.specs.inner.LineTexts.{IsValuePart, LineInParts}

-- the bytes of a line before its tag
abbrev pub before_tag : LineParts → Bytes
before_tag line = decimal line.level ++ (32 ∷ xref_part line.xref)

before_and_tag : (line : LineParts) (part : Bytes) → decimal line.level ++ (32 ∷ (xref_part line.xref ++ (line.tag ++ part))) ≡ (before_tag line ++ line.tag) ++ part
before_and_tag line part = sym (append_assoc (before_tag line) line.tag part ∙ append_assoc (decimal line.level) (32 ∷ xref_part line.xref) (line.tag ++ part))

pub empty_spelling : (line : LineParts) → line.value ≡ Empty → spelling line ≡ before_tag line ++ line.tag
empty_spelling line e = ap (λ v. decimal line.level ++ (32 ∷ (xref_part line.xref ++ (line.tag ++ value_part v)))) e ∙ before_and_tag line [] ∙ append-nil (before_tag line ++ line.tag)

blank_spelling : (line : LineParts) → line.value ≡ Empty → spelling line ++ (32 ∷ []) ≡ decimal line.level ++ (32 ∷ (xref_part line.xref ++ (line.tag ++ (32 ∷ []))))
blank_spelling line e = ap (λ b. b ++ (32 ∷ [])) (empty_spelling line e) ∙ sym (before_and_tag line (32 ∷ []))

part_is : (value : Value) → IsValuePart value (value_part value)
part_is Empty = inl refl
part_is Void = refl
part_is (Pointer name) = refl
part_is (Text text) = refl

pub in_parts : (line : LineParts) (text : Bytes) → LineText line text → LineInParts line text
in_parts line text t = elim t.spelled [
  | inl e ↦ record { is_line = t.is_line; value_part = value_part line.value; value = part_is line.value; spelled = e }
  | inr blank ↦ record {
    is_line = t.is_line;
    value_part = 32 ∷ [];
    value = subst (λ v. IsValuePart v (32 ∷ [])) (sym blank.0) (inr refl);
    spelled = blank.1 ∙ blank_spelling line blank.0;
  }
]

part_cases : (value : Value) (part : Bytes) → IsValuePart value part → (part ≡ value_part value) ⊎ ((value ≡ Empty) × (part ≡ 32 ∷ []))
part_cases Empty part (inl e) = inl e
part_cases Empty part (inr e) = inr (refl, e)
part_cases Void part e = inl e
part_cases (Pointer name) part e = inl e
part_cases (Text text) part e = inl e

pub from_parts : (line : LineParts) (text : Bytes) → LineInParts line text → LineText line text
from_parts line text t = record {
  is_line = t.is_line;
  spelled = elim (part_cases line.value t.value_part t.value) [
    | inl e ↦ inl (t.spelled ∙ ap (λ p. decimal line.level ++ (32 ∷ (xref_part line.xref ++ (line.tag ++ p)))) e)
    | inr blank ↦ inr (blank.0, t.spelled ∙ ap (λ p. decimal line.level ++ (32 ∷ (xref_part line.xref ++ (line.tag ++ p)))) blank.1 ∙ sym (blank_spelling line blank.0))
  ];
}
