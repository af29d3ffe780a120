-- The canonical spelling of a document: the byte order mark, and each line with a line feed, without a space after the tag of an
-- empty value (FamilySearch GEDCOM 7.0, "Lines" and "Structures").
use Rattle.std.specs.Prelude.{◌≡◌}
use Rattle.ged_line.specs.Bytes.{Bytes}
use Rattle.ged_line.specs.Spelling.{file_of}
use Rattle.ged_tree.specs.Trees.{Trees}
use Rattle.ged_tree.specs.DocumentLines.{document_lines}

-- the bytes are the one canonical spelling of the document
abbrev pub CanonText : Trees → Bytes → Type 0
CanonText document bytes = bytes ≡ file_of (document_lines document)
