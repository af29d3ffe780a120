-- Nothing here need be believed: only private contracts and proofs cite it.
use Rattle.std.specs.Prelude.{◌≡◌, ℕ, ◌+◌, ◌++◌, length, decimal}
use Rattle.ged_line.specs.Bytes.{Bytes}
use Rattle.ged_line.specs.Lines.{LineParts, xref_part}
use Rattle.ged_line.specs.Spelling.{LineText, value_part}
use Rattle.ged_tree.specs.declared.table.structure.FlatStructure.{FlatStructure}
use Rattle.ged_tree.specs.Rows.{Shown, shown_with}

abbrev pub shown_of : FlatStructure → Shown
shown_of s = shown_with s.text.now s.kept

-- the tag of a line stands between two places of the text that spells the line
abbrev pub HasTagAt : LineParts → Bytes → ℕ → ℕ → Type 0
HasTagAt line text start end = LineText line text × (start ≡ length (decimal line.level) + 1 + length (xref_part line.xref)) × (end ≡ start + length line.tag)

-- what stands on a line from its tag on, in the canonical spelling
abbrev pub rest_of : LineParts → Bytes
rest_of line = line.tag ++ value_part line.value
