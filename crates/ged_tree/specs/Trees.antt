-- The structures of a document, as trees (FamilySearch GEDCOM 7.0, "Structures").
use Rattle.std.specs.Prelude.{ℕ, ◌+◌, List, [], ◌∷◌, Option, None, length}
use Rattle.ged_line.specs.Bytes.{Bytes}
use Rattle.ged_tree.specs.declared.payload.Payload.{Payload}
use Rattle.ged_tree.specs.declared.payload.Payload.TheVariants.{Void, Text}

-- one structure by itself: a record's cross-reference identifier, the tag, and the payload
pub record Structure : Type 0 where
  pub xref : Option Bytes
  pub tag : Bytes
  pub payload : Payload

-- Trees that stand side by side, in order: none; or a first structure, the trees below it, and the trees after it. A
-- document is HEAD's tree and, after it, the records' trees.
pub data Trees : Type 0 where
  none : Trees
  tree : Structure → Trees → Trees → Trees

-- a structure that has no cross-reference identifier, and the trees below it
pub record Tree : Type 0 where
  pub tag : Bytes
  pub payload : Payload
  pub children : Trees

abbrev pub structure_of : Option Bytes → Tree → Structure
structure_of xref t = record { xref = xref; tag = t.tag; payload = t.payload }

-- trees in a list, side by side
abbrev pub trees_of : List Tree → Trees
trees_of [] = none
trees_of (t ∷ ts) = tree (structure_of None t) t.children (trees_of ts)

-- how many structures there are
abbrev pub trees_count : Trees → ℕ
trees_count none = 0
trees_count (tree s below next) = 1 + trees_count below + trees_count next

-- the lines of a payload past the first
abbrev pub further_lines : Payload → List Bytes
further_lines (Text (first ∷ further)) = further
further_lines _ = []

-- how many lines a structure has: its own, and one for each further line of its payload
abbrev pub line_count : Payload → ℕ
line_count payload = 1 + length (further_lines payload)

-- how many lines trees have
abbrev pub lines_count : Trees → ℕ
lines_count none = 0
lines_count (tree s below next) = line_count s.payload + lines_count below + lines_count next

-- the tree of HEAD, and the trees of the records
abbrev pub head_of : Trees → Tree
head_of none = record { tag = []; payload = Void; children = none }
head_of (tree s below next) = record { tag = s.tag; payload = s.payload; children = below }

abbrev pub records_of : Trees → Trees
records_of none = none
records_of (tree s below next) = next
