-- What building a document answers: the document that has the lines, or their first fault (FamilySearch GEDCOM 7.0,
-- "Lines" and "Structures").
use Rattle.std.specs.Prelude.{◌≡◌, true, ◌↔◌, ℕ, ◌≤◌, ◌⊎◌, List, length, Option, Some, None, ⊤}
use Rattle.ged_line.specs.Bytes.{Bytes}
use Rattle.ged_line.specs.Lines.{LineParts}
use Rattle.ged_line.specs.Files.{FileText, StopsAt}
use Rattle.ged_line.specs.declared.fault.LineAt.{LineAt}
use Rattle.ged_tree.specs.Trees.{Trees}
use Rattle.ged_tree.specs.DocumentLines.{document_lines}
use Rattle.ged_tree.specs.Documents.{is_document}
use Rattle.ged_tree.specs.TreeFaults.{Pass, FirstTreeFault}
use Rattle.ged_tree.specs.FileFaults.{FirstFaultIn}
use Rattle.ged_tree.specs.declared.fault.TreeFault.{TreeFault}
use Rattle.ged_tree.specs.declared.fault.TreeFault.TheVariants.{Line}
use Rattle.ged_tree.specs.declared.fault.BuildFault.{BuildFault}
use Rattle.ged_tree.specs.declared.fault.BuildFault.TheVariants.{At, Memory}

-- The first fault of lines and of where reading stopped behind them. Without a stop it is the lines' own; with one, it is
-- theirs where it stands at one of them, and where all of them pass, the stop's.
abbrev pub IsBuildFault : List LineParts → Option LineAt → ℕ → TreeFault → Type 0
IsBuildFault lines None line fault = FirstTreeFault lines line fault
IsBuildFault lines (Some stop) line fault = (FirstTreeFault lines line fault × (line ≤ length lines))
    ⊎ (Pass lines × (line ≡ stop.line) × (fault ≡ Line stop.fault))

-- the document is that of the lines that the file spells
abbrev pub HasFile : Trees → Bytes → Type 0
HasFile document file = (is_document document ≡ true) × FileText (document_lines document) file

-- the first fault of the file; of want of memory nothing is said
abbrev pub TellsFile : BuildFault → Bytes → Type 0
TellsFile (At at) file = FirstFaultIn file at.line at.fault
TellsFile (Memory error) file = ⊤

-- reading the file gives these lines and this stop
abbrev pub ReadsAs : Bytes → List LineParts → Option LineAt → Type 0
ReadsAs file lines None = FileText lines file
ReadsAs file lines (Some stop) = StopsAt file lines stop.line stop.fault

-- a file that has a fault has no document
abbrev pub FaultyFileHasNone : Type 0
FaultyFileHasNone = (file : Bytes) (line : ℕ) (fault : TreeFault)
    → FirstFaultIn file line fault → (document : Trees) → ¬ (HasFile document file)

-- files that spell the same lines have the same document: line ends, a byte order mark and blanks after empty values say nothing
abbrev pub SameLinesOneDocument : Type 0
SameLinesOneDocument = (file other : Bytes) (lines : List LineParts) → FileText lines file → FileText lines other
    → (document : Trees) → HasFile document file → HasFile document other

-- the first fault of a file is that of the lines and the stop that reading it gives
abbrev pub FileFaultIsBuildFault : Type 0
FileFaultIsBuildFault = (file : Bytes) (lines : List LineParts) (stop : Option LineAt) → ReadsAs file lines stop
    → (line : ℕ) (fault : TreeFault) → FirstFaultIn file line fault ↔ IsBuildFault lines stop line fault
