-- Nothing here need be believed: only private contracts and proofs cite it.
use Rattle.std.specs.Prelude.{◌≡◌, ℕ, List, ◌++◌, length}
use Rattle.ged_line.specs.Bytes.{Bytes}
use Rattle.ged_line.specs.Lines.{LineParts}
use Rattle.ged_line.specs.Files.{SpellLines, StopsIn}
use Rattle.ged_line.specs.Spelling.{spelled_lines}
use Rattle.ged_line.specs.declared.fault.RespellFault.{RespellFault}
use Rattle.ged_line.specs.declared.fault.RespellFault.TheVariants as respelling

-- the first fault of bytes without a mark
abbrev pub TellsRespellIn : RespellFault → Bytes → Type 0
TellsRespellIn (respelling.At at) bytes = (lines : List LineParts) × StopsIn bytes lines at.line at.fault
TellsRespellIn (respelling.Memory error) bytes = Unit {0}

-- bytes without a mark spell so many lines, whose canonical spelling is put behind what stood there
abbrev pub IsRespelledBehind : Bytes → ℕ → Bytes → Bytes → Type 0
IsRespelledBehind bytes count old new = (lines : List LineParts) × SpellLines lines bytes × (count ≡ length lines)
    × (new ≡ old ++ spelled_lines lines)
