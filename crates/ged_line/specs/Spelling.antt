-- The bytes that spell a line (FamilySearch GEDCOM 7.0, "Lines"), and the canonical spelling of a line and of a file: the
-- byte order mark first, a line feed after every line, and no space after the tag of an empty value.
use Rattle.std.specs.Prelude.{◌≡◌, true, List, [], ◌∷◌, ◌++◌, ◌⊎◌, codes, decimal}
use Rattle.ged_line.specs.Bytes.{Bytes, space, at_sign, line_feed}
use Rattle.ged_line.specs.Lines.{LineParts, Value, Empty, Void, Pointer, Text, is_line, xref_part, doubled}

-- the bytes of a value, with no space for an empty one
abbrev pub value_part : Value → Bytes
value_part Empty = []
value_part Void = codes " @VOID@"
value_part (Pointer name) = space ∷ at_sign ∷ name ++ at_sign ∷ []
value_part (Text text) = space ∷ doubled text

-- the canonical spelling of a line, without its end: its level, a space, its cross-reference identifier, its tag, its value
abbrev pub spelling : LineParts → Bytes
spelling line = decimal line.level ++ space ∷ (xref_part line.xref ++ (line.tag ++ value_part line.value))

-- the bytes spell the line: canonically, or with a space after the tag of an empty value
pub record LineText (line : LineParts) (bytes : Bytes) : Type 0 where
  pub is_line : is_line line ≡ true
  pub spelled : (bytes ≡ spelling line) ⊎ ((line.value ≡ Empty) × (bytes ≡ spelling line ++ space ∷ []))

-- each line with a line feed
abbrev pub spelled_lines : List LineParts → Bytes
spelled_lines [] = []
spelled_lines (line ∷ lines) = spelling line ++ (line_feed ∷ spelled_lines lines)

-- the mark and the lines
abbrev pub file_of : List LineParts → Bytes
file_of lines = 0xEF ∷ 0xBB ∷ 0xBF ∷ spelled_lines lines
