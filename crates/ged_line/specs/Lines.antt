-- A line, and the bytes of its parts (FamilySearch GEDCOM 7.0, "Lines").
use Rattle.std.specs.Prelude.{ℕ, Bool, true, ◌&&◌, ◌==◌, nat_le, not, [], ◌∷◌, ◌++◌, Option, if◌then◌else◌, length}
use Rattle.std.specs.Option.{option_map_or}
use Rattle.ged_line.specs.Bytes.{Bytes, space, at_sign}
use Rattle.ged_line.specs.Characters.{is_plain}
use Rattle.ged_line.specs.Names.{is_tag, is_xref}

-- what stands in a line after its tag: nothing, the void pointer, a pointer to the record of a name, or a text
pub data Value : Type 0 where
  Empty : Value
  Void : Value
  Pointer : Bytes → Value
  Text : Bytes → Value

-- the parts of a line; its cross-reference identifier and its pointer stand without their @
pub record LineParts : Type 0 where
  pub level : ℕ
  pub xref : Option Bytes
  pub tag : Bytes
  pub value : Value

abbrev pub line_parts : ℕ → Option Bytes → Bytes → Value → LineParts
line_parts level xref tag value = record { level = level; xref = xref; tag = tag; value = value }

-- a text that is a line's value is not empty, and all its characters may stand in a line
abbrev pub is_value : Value → Bool
is_value Empty = true
is_value Void = true
is_value (Pointer name) = is_xref name
is_value (Text text) = not (length text == 0) && is_plain text

-- the parts are those of some line
abbrev pub is_line : LineParts → Bool
is_line line = nat_le line.level 99 && option_map_or is_xref line.xref true && is_tag line.tag && is_value line.value

-- there is no identifier, or its name may be one
abbrev pub may_be_xref : Option Bytes → Bool
may_be_xref xref = option_map_or is_xref xref true

-- a text that begins with an @ is spelled with two of them
abbrev pub doubled : Bytes → Bytes
doubled [] = []
doubled (c ∷ cs) = if c == at_sign then at_sign ∷ c ∷ cs else c ∷ cs

-- the bytes of a cross-reference identifier and the space after it
abbrev pub xref_part : Option Bytes → Bytes
xref_part xref = option_map_or (λ name. at_sign ∷ name ++ at_sign ∷ space ∷ []) xref []
