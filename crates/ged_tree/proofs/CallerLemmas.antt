-- What the proofs of the crates above cite of this crate, and they cite nothing else of its proofs.
use Rattle.std.specs.Prelude.{◌≡◌, ◌≢◌, ℕ, ◌+◌, ◌-◌, ◌<◌, ◌≤◌, true, List, Some, length}
use Rattle.ged_line.specs.Bytes.{Bytes}
use Rattle.ged_line.specs.Lines.{LineParts}
use Rattle.ged_line.specs.Files.{FileText}
use Rattle.ged_line.specs.WholeLines.{EndsLine}
use Rattle.ged_tree.specs.Trees.{Structure, Trees, none, tree, trees_count, line_count, lines_count}
use Rattle.ged_tree.specs.Places.{trees_from, structure_at, below_at, place_after, line_at}
use Rattle.ged_tree.specs.Runs.{trees_between, IsRunOfTrees}
use Rattle.ged_tree.specs.Documents.{is_document, are_at, HasLines}
use Rattle.ged_tree.specs.DocumentLines.{document_lines}
use Rattle.ged_tree.specs.TreeLaws.{NoneShared, OneFaultInFile, AreLines}
use Rattle.ged_tree.specs.Building.{HasFile, FaultyFileHasNone, FileFaultIsBuildFault}
use Rattle.ged_tree.specs.TreeFaults.{Pass, fault_after}
use Rattle.ged_tree.specs.FileFaults.{FirstFaultIn}
use Rattle.ged_tree.specs.FaultsStay.{FirstFaultStays}
use Rattle.ged_tree.specs.declared.fault.TreeFault.{TreeFault}
use Rattle.ged_tree.specs.declared.fault.TreeFault.TheVariants.{NoTrailer}
use Rattle.ged_tree.proofs.theory.Building as building
use Rattle.ged_tree.proofs.laws.FaultsStay as stays
use Rattle.ged_tree.proofs.laws.FileFaults as file_faults
use Rattle.ged_tree.proofs.theory.OneDocument as lines
use Rattle.ged_tree.proofs.theory.LineCounts as counts
use Rattle.ged_tree.proofs.laws.LinesAtPlaces as numbers
use Rattle.ged_tree.proofs.theory.LinesAgain as again
use Rattle.ged_tree.proofs.theory.Places as places
use Rattle.ged_tree.proofs.laws.Shown as shown_lines
-- what stands below a structure ends within the document
pub use Rattle.ged_tree.proofs.theory.Places.{after_fits}
-- the level and the line of a place follow from those of the trees; a document has fewer structures and lines than 2 ^ 63
pub use Rattle.ged_tree.proofs.theory.Walks.{level_first, level_below, level_next, line_first, line_below, line_next, few_of_document}
-- trees beside others
pub use Rattle.ged_tree.proofs.theory.RowsAtPlaces.{beside, beside_none}
-- what a document's trees are, structure by structure
pub use Rattle.ged_tree.proofs.theory.LinesAgain.{TreeIs, tree_is, DocumentIs, document_is}
-- what the file of some lines tells is told of the lines, and of the stop behind them
pub use Rattle.ged_tree.proofs.theory.Building.{stop_first, written_fault, written_has, written_stop}

-- ---- the trees from a place on

pub from_first : (s : Structure) (below next : Trees) (place : ℕ) → place ≡ 0 → trees_from (tree s below next) place ≡ tree s below next
from_first = places.from_first

pub from_below : (s : Structure) (below next : Trees) (place : ℕ) → 0 < place → place ≤ trees_count below
    → trees_from (tree s below next) place ≡ trees_from below (place - 1)
from_below = places.from_below

pub from_next : (s : Structure) (below next : Trees) (place : ℕ) → trees_count below < place
    → trees_from (tree s below next) place ≡ trees_from next (place - 1 - trees_count below)
from_next = places.from_next

-- ---- runs of places

-- what stands below a structure is a run of its own
pub below_run : (d : Trees) (place : ℕ) → place < trees_count d → trees_between d (place + 1) (place_after d place) ≡ below_at d place
below_run = places.below_run

pub run_below : (d : Trees) (place : ℕ) → place < trees_count d → IsRunOfTrees d (place + 1) (place_after d place)
run_below = places.run_below

-- a run lies within the document
pub run_within : (d : Trees) (start end : ℕ) → IsRunOfTrees d start end → start < end → start < trees_count d
run_within = places.run_within

-- it is its first structure, the run below it, and the run of the others
pub run_unfolds : (d : Trees) (start end : ℕ) → IsRunOfTrees d start end → start < end
    → trees_between d start end ≡ tree (structure_at d start) (trees_between d (start + 1) (place_after d start)) (trees_between d (place_after d start) end)
run_unfolds = places.run_unfolds

pub run_next : (d : Trees) (start end : ℕ) → IsRunOfTrees d start end → start < end → IsRunOfTrees d (place_after d start) end
run_next = places.run_next

-- at its end it has no tree
pub run_ends : (d : Trees) (start end : ℕ) → end ≤ start → trees_between d start end ≡ none
run_ends = places.run_ends

-- all the trees are a run
pub whole_is : (d : Trees) → trees_between d 0 (trees_count d) ≡ d
whole_is = places.whole_is

pub run_whole : (d : Trees) → IsRunOfTrees d 0 (trees_count d)
run_whole = places.run_whole

-- ---- documents and files

-- the trees of a document may stand where they do
pub at_of_document : (d : Trees) → is_document d ≡ true → are_at 0 d ≡ true
at_of_document = again.document_placed

-- the line of a place follows from that of the place before it
pub next_line : (d : Trees) (place : ℕ) → place < trees_count d → line_at 1 d (place + 1) ≡ line_at 1 d place + line_count (structure_at d place).payload
next_line = numbers.next_line 1

-- laws, as the functions of these names in src/ state them
pub are_lines : AreLines
are_lines = shown_lines.shown

pub none_shared : NoneShared
none_shared = lines.one_document

pub one_fault_in_file : OneFaultInFile
one_fault_in_file = file_faults.one_in_file

-- a file that spells a document's lines has the document
pub file_of_lines : (document : Trees) (lines : List LineParts) (file : Bytes) → FileText lines file → HasLines document lines → HasFile document file
file_of_lines = building.file_of_lines

-- how many lines a document has
pub counted : (document : Trees) → length (document_lines document) ≡ lines_count document + 1
counted = counts.counted

pub faulty_file_has_none : FaultyFileHasNone
faulty_file_has_none = building.none_of_file

pub file_fault_is_build_fault : FileFaultIsBuildFault
file_fault_is_build_fault = building.file_fault

pub first_fault_stays : FirstFaultStays
first_fault_stays = stays.first_fault_stays

-- whole lines of which none is faulty have no other fault than that TRLR is missing, and no line has that one
pub only_trailer : (front : Bytes) (lines : List LineParts) (line : ℕ) (fault : TreeFault) → EndsLine front → FileText lines front → Pass lines
    → FirstFaultIn front line fault → fault ≡ NoTrailer
only_trailer = stays.only_trailer

pub not_at_line : (lines : List LineParts) (line : LineParts) (fault : TreeFault) → fault_after lines line ≡ Some fault → fault ≢ NoTrailer
not_at_line = stays.not_at_line
