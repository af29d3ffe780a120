-- What reading answers.
use Rattle.std.specs.Prelude.{◌≡◌, List, [], ◌∷◌, Option, Result, MatchOption, MatchResult, ⊤}
use Rattle.ged_line.specs.Bytes.{Bytes}
use Rattle.ged_line.specs.Lines.{LineParts}
use Rattle.ged_line.specs.Spelling.{LineText}
use Rattle.ged_line.specs.Faults.{IsFaultOf}
use Rattle.ged_line.specs.Files.{FileText, StopsAt, IsFirstLineFault}
use Rattle.ged_line.specs.declared.fault.LineFault.{LineFault}
use Rattle.ged_line.specs.declared.file.spelled_line.SpelledLine.{SpelledLine}
use Rattle.ged_line.specs.declared.owned.lines.Lines.{Lines}
use Rattle.ged_line.specs.declared.fault.ParseFault.{ParseFault}
use Rattle.ged_line.specs.declared.fault.ParseFault.TheVariants as parsing
use Rattle.ged_line.specs.declared.fault.RespellFault.{RespellFault}
use Rattle.ged_line.specs.declared.fault.RespellFault.TheVariants as respelling

-- the line that the piece spells and the piece itself, or its fault
abbrev pub TellsSpelled : Result SpelledLine LineFault → Bytes → Type 0
TellsSpelled told piece = MatchResult told (λ spelled. LineText spelled.line piece × (spelled.text.now ≡ piece)) (λ fault. IsFaultOf fault piece)

-- A call for the first of the pieces that are left tells its line or its fault and leaves the others, or answers that
-- none is left.
abbrev pub YieldsLine : List Bytes → Option (Result SpelledLine LineFault) → List Bytes → Type 0
YieldsLine pieces told rest = MatchOption told ((pieces ≡ []) × (rest ≡ []))
    (λ line. (piece : Bytes) × (pieces ≡ piece ∷ rest) × TellsSpelled line piece)

-- the piece's fault; want of memory is answered for a piece with a line alone
abbrev pub TellsParse : ParseFault → Bytes → Type 0
TellsParse (parsing.Bad fault) piece = IsFaultOf fault piece
TellsParse (parsing.Memory error) piece = (line : LineParts) × LineText line piece

-- without a stop, the lines that the file spells; with one, the lines before the first piece that is none, that piece's
-- number and its fault
abbrev pub TellsLines : Bytes → Lines → Type 0
TellsLines file read = MatchOption read.stop (FileText read.lines.items file) (λ at. StopsAt file read.lines.items at.line at.fault)

-- the file's first fault; of want of memory nothing is said
abbrev pub TellsRespell : RespellFault → Bytes → Type 0
TellsRespell (respelling.At at) file = IsFirstLineFault file at.line at.fault
TellsRespell (respelling.Memory error) file = ⊤
