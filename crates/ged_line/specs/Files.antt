-- The lines of a file (FamilySearch GEDCOM 7.0, "Lines").
use Rattle.std.specs.Prelude.{◌≡◌, ℕ, ◌+◌, List, [], ◌∷◌, ◌++◌, ◌⊎◌, length}
use Rattle.ged_line.specs.Bytes.{Bytes}
use Rattle.ged_line.specs.Lines.{LineParts}
use Rattle.ged_line.specs.Spelling.{LineText, file_of}
use Rattle.ged_line.specs.Faults.{IsFaultOf}
use Rattle.ged_line.specs.Pieces.{IsEnd, IsBehindMark, AreCutInto}
use Rattle.ged_line.specs.declared.fault.LineFault.{LineFault}
use Rattle.ged_line.specs.declared.file.spelled_part.SpelledPart.{SpelledPart}

-- each line's text and its end, where the last end may be absent
abbrev pub SpellLines : List LineParts → Bytes → Type 0
SpellLines [] bytes = bytes ≡ []
SpellLines (line ∷ lines) bytes = (text : Bytes) × LineText line text
    × (((lines ≡ []) × (bytes ≡ text))
    ⊎ ((end rest : Bytes) × IsEnd end rest × (bytes ≡ text ++ (end ++ rest)) × SpellLines lines rest))

-- the bytes of a file spell these lines: an optional mark, then the lines
abbrev pub FileText : List LineParts → Bytes → Type 0
FileText lines file = (bytes : Bytes) × IsBehindMark file bytes × SpellLines lines bytes

-- the pieces spell these lines, one each
abbrev pub AreTexts : List LineParts → List Bytes → Type 0
AreTexts [] pieces = pieces ≡ []
AreTexts (line ∷ lines) [] = ⊥
AreTexts (line ∷ lines) (piece ∷ pieces) = LineText line piece × AreTexts lines pieces

-- Reading bytes without a mark stops: the pieces before the first that is no line spell these lines, and that piece,
-- which stands at this line, counted from 1, has this fault.
pub record StopsIn (bytes : Bytes) (lines : List LineParts) (line : ℕ) (fault : LineFault) : Type 0 where
  pub before : List Bytes
  pub piece : Bytes
  pub after : List Bytes
  pub cut : AreCutInto bytes (before ++ piece ∷ after)
  pub texts : AreTexts lines before
  pub fault_is : IsFaultOf fault piece
  pub line_is : line ≡ length before + 1

-- the same of a file, which may have a mark
abbrev pub StopsAt : Bytes → List LineParts → ℕ → LineFault → Type 0
StopsAt file lines line fault = (bytes : Bytes) × IsBehindMark file bytes × StopsIn bytes lines line fault

-- the first piece of a file that is no line stands at this line and has this fault
abbrev pub IsFirstLineFault : Bytes → ℕ → LineFault → Type 0
IsFirstLineFault file line fault = (lines : List LineParts) × StopsAt file lines line fault

-- the text is the canonical spelling of the lines that the file spells
abbrev pub IsRespelling : Bytes → Bytes → Type 0
IsRespelling file text = (lines : List LineParts) × FileText lines file × (text ≡ file_of lines)

-- the bytes of parts, one behind the other: of each what was made, then what was kept
abbrev pub joined_parts : List SpelledPart → Bytes
joined_parts [] = []
joined_parts (part ∷ parts) = part.made.items ++ (part.kept.now ++ joined_parts parts)
