-- Lists of bytes, and the bytes that have a meaning in a line (FamilySearch GEDCOM 7.0, "Lines").
use Rattle.std.specs.Prelude.{ℕ, List}

-- a list of bytes, such as a file, a line or a text in UTF-8
abbrev pub Bytes : Type 0
Bytes = List ℕ

-- the delimiter of a line's parts
abbrev pub space : ℕ
space = 0x20

-- what stands round a cross-reference identifier
abbrev pub at_sign : ℕ
at_sign = 0x40

abbrev pub line_feed : ℕ
line_feed = 0x0A

abbrev pub carriage_return : ℕ
carriage_return = 0x0D
