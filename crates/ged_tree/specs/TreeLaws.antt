-- Laws of documents and their lines, each the contract of a public function.
use Rattle.std.specs.Prelude.{◌≡◌, ◌↔◌, ◌⊎◌, ℕ, ◌<◌, ◌^◌, true, List, length}
use Rattle.std.specs.List.{list_all}
use Rattle.ged_line.specs.Bytes.{Bytes}
use Rattle.ged_line.specs.Lines.{LineParts, is_line}
use Rattle.ged_tree.specs.Trees.{Trees}
use Rattle.ged_tree.specs.Documents.{is_document, HasLines}
use Rattle.ged_tree.specs.TreeFaults.{Pass, has_trailer, FirstTreeFault}
use Rattle.ged_tree.specs.FileFaults.{FirstFaultIn, FilePasses}
use Rattle.ged_tree.specs.declared.fault.TreeFault.{TreeFault}

-- one document has these lines, and no other
abbrev pub HasOneDocument : List LineParts → Type 0
HasOneDocument lines = (document : Trees) × HasLines document lines × ((other : Trees) → HasLines other lines → document ≡ other)

-- the lines have a first fault
abbrev pub HasFirstFault : List LineParts → Type 0
HasFirstFault lines = (line : ℕ) × (fault : TreeFault) × FirstTreeFault lines line fault

-- no fault stands at any of the lines and TRLR is among them exactly where one document, and no other, has these lines
abbrev pub PassIsDocument : Type 0
PassIsDocument = (lines : List LineParts) → list_all is_line lines ≡ true → length lines < 2 ^ 63
    → (Pass lines × (has_trailer lines ≡ true)) ↔ HasOneDocument lines

-- lines have one document or a first fault
abbrev pub DocumentOrFault : Type 0
DocumentOrFault = (lines : List LineParts) → list_all is_line lines ≡ true → length lines < 2 ^ 63 → HasOneDocument lines ⊎ HasFirstFault lines

-- lines with a first fault have no document
abbrev pub FaultyHasNone : Type 0
FaultyHasNone = (lines : List LineParts) → HasFirstFault lines → (document : Trees) → ¬ (HasLines document lines)

-- lines have one first fault at most, at one line
abbrev pub OneFirstTreeFault : Type 0
OneFirstTreeFault = (lines : List LineParts) (line other_line : ℕ) (fault other : TreeFault) → FirstTreeFault lines line fault
    → FirstTreeFault lines other_line other → (line ≡ other_line) × (fault ≡ other)

-- a file has one first fault at most, at one line
abbrev pub OneFaultInFile : Type 0
OneFaultInFile = (file : Bytes) (line other_line : ℕ) (fault other : TreeFault) → FirstFaultIn file line fault
    → FirstFaultIn file other_line other → (line ≡ other_line) × (fault ≡ other)

-- a file with a first fault does not pass
abbrev pub FaultyFileFails : Type 0
FaultyFileFails = (file : Bytes) (line : ℕ) (fault : TreeFault) → FirstFaultIn file line fault → ¬ (FilePasses file)

-- a document has one list of lines
abbrev pub OneList : Type 0
OneList = (document : Trees) → is_document document ≡ true
    → (lines : List LineParts) × HasLines document lines × ((others : List LineParts) → HasLines document others → lines ≡ others)

-- no two documents have the same lines
abbrev pub NoneShared : Type 0
NoneShared = (document other : Trees) (lines : List LineParts) → HasLines document lines → HasLines other lines → document ≡ other

-- what a document has as its lines are lines, and fewer than 2 ^ 63
abbrev pub AreLines : Type 0
AreLines = (document : Trees) (lines : List LineParts) → HasLines document lines
    → (list_all is_line lines ≡ true) × (length lines < 2 ^ 63)
