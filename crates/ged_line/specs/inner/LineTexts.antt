-- Nothing here need be believed: only private contracts and proofs cite it.
-- Texts of a line.
use Rattle.std.specs.Prelude.{◌≡◌, Bool, true, ◌&&◌, ◌==◌, not, [], ◌∷◌, ◌++◌, ◌⊎◌, codes, decimal, length}
use Rattle.ged_line.specs.Bytes.{Bytes, space, at_sign}
use Rattle.ged_line.specs.Characters.{is_plain}
use Rattle.ged_line.specs.Lines.{Value, Empty, Void, Pointer, Text, LineParts, is_line, xref_part, doubled}

-- a text that may be a line's value: not empty, and all its characters may stand in a line
abbrev pub is_line_text : Bytes → Bool
is_line_text text = not (length text == 0) && is_plain text

-- the bytes spell a value and the space before it, where the empty value may have a space or none
abbrev pub IsValuePart : Value → Bytes → Type 0
IsValuePart Empty bytes = (bytes ≡ []) ⊎ (bytes ≡ space ∷ [])
IsValuePart Void bytes = bytes ≡ codes " @VOID@"
IsValuePart (Pointer name) bytes = bytes ≡ space ∷ at_sign ∷ name ++ at_sign ∷ []
IsValuePart (Text text) bytes = bytes ≡ space ∷ doubled text

-- the bytes spell the line, with what they spell its value by
pub record LineInParts (line : LineParts) (bytes : Bytes) : Type 0 where
  pub is_line : is_line line ≡ true
  pub value_part : Bytes
  pub value : IsValuePart line.value value_part
  pub spelled : bytes ≡ decimal line.level ++ space ∷ (xref_part line.xref ++ (line.tag ++ value_part))
