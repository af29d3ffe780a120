-- Laws of lines and files, each the contract of a public function.
use Rattle.std.specs.Prelude.{◌≡◌, List, ◌⊎◌, true}
use Rattle.std.specs.List.{AllByRecursion}
use Rattle.ged_line.specs.Bytes.{Bytes}
use Rattle.ged_line.specs.Lines.{LineParts, is_line}
use Rattle.ged_line.specs.Spelling.{LineText, spelling, file_of}
use Rattle.ged_line.specs.Faults.{StandsAt, IsFaultOf}
use Rattle.ged_line.specs.Pieces.{ArePiecesOf}
use Rattle.ged_line.specs.Files.{FileText}
use Rattle.ged_line.specs.declared.fault.LineFault.{LineFault}

-- a piece has one line at most
abbrev pub OneLine : Type 0
OneLine = (line other : LineParts) (piece : Bytes) → LineText line piece → LineText other piece → line ≡ other

-- a piece has a line and no fault stands at it, or it has a fault and no line
abbrev pub IsLineOrFaulty : Bytes → Type 0
IsLineOrFaulty piece = ((line : LineParts) × LineText line piece × ((fault : LineFault) → ¬ (StandsAt fault piece)))
    ⊎ ((fault : LineFault) × IsFaultOf fault piece × ((line : LineParts) → ¬ (LineText line piece)))

-- a file is cut into pieces in one way
abbrev pub OneCut : Type 0
OneCut = (file : Bytes) (pieces others : List Bytes) → ArePiecesOf file pieces → ArePiecesOf file others → pieces ≡ others

-- a file spells one list of lines at most
abbrev pub OneListOfLines : Type 0
OneListOfLines = (file : Bytes) (lines others : List LineParts) → FileText lines file → FileText others file → lines ≡ others

-- the canonical spelling of a line spells it
abbrev pub SpellingSpells : Type 0
SpellingSpells = (line : LineParts) → is_line line ≡ true → LineText line (spelling line)

-- what is written of lines spells these lines
abbrev pub WrittenIsRead : Type 0
WrittenIsRead = (lines : List LineParts) → AllByRecursion (λ line. is_line line ≡ true) lines → FileText lines (file_of lines)
