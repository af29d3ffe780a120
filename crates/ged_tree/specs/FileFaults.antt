-- The first fault of a file (FamilySearch GEDCOM 7.0, "Lines" and "Structures").
use Rattle.std.specs.Prelude.{◌≡◌, ℕ, ◌+◌, true, List, ◌∷◌, ◌++◌, length, Some}
use Rattle.ged_line.specs.Bytes.{Bytes}
use Rattle.ged_line.specs.Lines.{LineParts}
use Rattle.ged_line.specs.Spelling.{LineText}
use Rattle.ged_line.specs.Faults.{IsFaultOf}
use Rattle.ged_line.specs.Pieces.{ArePiecesOf}
use Rattle.ged_line.specs.Files.{AreTexts, FileText}
use Rattle.ged_line.specs.declared.fault.LineFault.{LineFault}
use Rattle.ged_tree.specs.TreeFaults.{fault_after, Pass, has_trailer, FirstTreeFault}
use Rattle.ged_tree.specs.declared.fault.TreeFault.{TreeFault}
use Rattle.ged_tree.specs.declared.fault.TreeFault.TheVariants.{Line}

-- the piece comes in the file straight after those that spell these lines, at which no fault stands
pub record ComesAfter (file : Bytes) (lines : List LineParts) (piece : Bytes) : Type 0 where
  pub before : List Bytes
  pub after : List Bytes
  pub pieces : ArePiecesOf file (before ++ piece ∷ after)
  pub texts : AreTexts lines before
  pub pass : Pass lines

-- the file's first fault and where it stands, lines being counted from 1: at a piece that is no line, at a line, or past
-- the last line
pub data FirstFaultIn : Bytes → ℕ → TreeFault → Type 0 where
  at_piece : (file : Bytes) (lines : List LineParts) (piece : Bytes) (fault : LineFault) → ComesAfter file lines piece → IsFaultOf fault piece
      → FirstFaultIn file (length lines + 1) (Line fault)
  at_text : (file : Bytes) (lines : List LineParts) (piece : Bytes) (line : LineParts) (fault : TreeFault) → ComesAfter file lines piece
      → LineText line piece → fault_after lines line ≡ Some fault → FirstFaultIn file (length lines + 1) fault
  at_end : (file : Bytes) (lines : List LineParts) (fault : TreeFault) → FileText lines file → FirstTreeFault lines (length lines + 1) fault
      → FirstFaultIn file (length lines + 1) fault

-- the file spells lines, no fault stands at any of them, and TRLR is among them
abbrev pub FilePasses : Bytes → Type 0
FilePasses file = (lines : List LineParts) × FileText lines file × Pass lines × (has_trailer lines ≡ true)
