-- The lines of a document (FamilySearch GEDCOM 7.0, "Lines" and "Structures").
use Rattle.std.specs.Prelude.{ℕ, ◌+◌, List, [], ◌∷◌, ◌++◌, None, codes, map}
use Rattle.ged_line.specs.Bytes.{Bytes}
use Rattle.ged_line.specs.Lines.{Value, Empty, LineParts, line_parts}
use Rattle.ged_line.specs.Lines.{Void as VoidValue, Pointer as PointerValue, Text as TextValue}
use Rattle.ged_line.specs.Spelling.{value_part}
use Rattle.ged_tree.specs.Trees.{Structure, Trees, none, tree, further_lines}
use Rattle.ged_tree.specs.declared.payload.Payload.{Payload}
use Rattle.ged_tree.specs.declared.payload.Payload.TheVariants.{Void, Pointer, Text}

-- the value of the line that shows one line of a text
abbrev pub line_value : Bytes → Value
line_value [] = Empty
line_value (b ∷ bs) = TextValue (b ∷ bs)

-- the value of a structure's own line
abbrev pub first_value : Payload → Value
first_value Void = VoidValue
first_value (Pointer name) = PointerValue name
first_value (Text []) = Empty
first_value (Text (line ∷ lines)) = line_value line

-- what stands on a structure's own line from its tag on, in the canonical spelling
abbrev pub rest_of_line : Structure → Bytes
rest_of_line s = s.tag ++ value_part (first_value s.payload)

-- a structure's own line, and a CONT line one level deeper for each further line of its payload
abbrev pub structure_lines : ℕ → Structure → List LineParts
structure_lines level s = line_parts level s.xref s.tag (first_value s.payload)
    ∷ map (λ line. line_parts (level + 1) None (codes "CONT") (line_value line)) (further_lines s.payload)

-- the lines of a structure, then those of the trees below it one level deeper, then those of the trees after it
abbrev pub lines_of : ℕ → Trees → List LineParts
lines_of level none = []
lines_of level (tree s below next) = structure_lines level s ++ lines_of (level + 1) below ++ lines_of level next

-- HEAD's tree, the records' trees, and TRLR
abbrev pub document_lines : Trees → List LineParts
document_lines document = lines_of 0 document ++ line_parts 0 None (codes "TRLR") Empty ∷ []
