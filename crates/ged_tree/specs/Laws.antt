-- Laws of the structures of documents, each the contract of a public function.
use Rattle.std.specs.Prelude.{◌≡◌, ℕ, ◌+◌, ◌-◌, ◌<◌, Some, length, slice_get}
use Rattle.ged_line.specs.Lines.{LineParts, line_parts}
use Rattle.ged_tree.specs.Trees.{Structure, Trees, trees_count, line_count, lines_count}
use Rattle.ged_tree.specs.Places.{structure_at, level_at, line_at}
use Rattle.ged_tree.specs.Entries.{entries_of}
use Rattle.ged_tree.specs.DocumentLines.{first_value, document_lines}

-- a list of structures belongs to one document and no other
abbrev pub OneDocument : Type 0
OneDocument = (document other : Trees) → entries_of 0 document ≡ entries_of 0 other → document ≡ other

-- the list has one structure for each place
abbrev pub OneForEachPlace : Type 0
OneForEachPlace = (document : Trees) → length (entries_of 0 document) ≡ trees_count document

-- the structure at a place of a document, and its level, stand at that place of the list
abbrev pub ListedAtPlace : Type 0
ListedAtPlace = (document : Trees) (place : ℕ) → place < trees_count document
    → slice_get (entries_of 0 document) place ≡ Some (record { level = level_at 0 document place; structure = structure_at document place })

-- a structure begins on the line past the lines of the structure before it
abbrev pub NextLine : Type 0
NextLine = (document : Trees) (place : ℕ) → place + 1 < trees_count document
    → line_at 1 document (place + 1) ≡ line_at 1 document place + line_count (structure_at document place).payload

-- the line of a structure that has its tag
abbrev pub own_line : ℕ → Structure → LineParts
own_line level s = line_parts level s.xref s.tag (first_value s.payload)

-- a structure's own line stands where the structure begins in the document's lines, which count from 1
abbrev pub BeginsOnLine : Type 0
BeginsOnLine = (document : Trees) (place : ℕ) → place < trees_count document
    → slice_get (document_lines document) (line_at 1 document place - 1) ≡ Some (own_line (level_at 0 document place) (structure_at document place))

-- a document has as many lines as its structures have, and TRLR's
abbrev pub CountedLines : Type 0
CountedLines = (document : Trees) → length (document_lines document) ≡ lines_count document + 1
