-- Which trees are a document's (FamilySearch GEDCOM 7.0, "Lines", "Structures" and "Characters").
use Rattle.std.specs.Prelude.{◌≡◌, ℕ, ◌+◌, ◌^◌, Bool, true, false, ◌&&◌, ◌==◌, not, nat_le, nat_lt, List, [], ◌∷◌, is_none, length, codes}
use Rattle.std.specs.Option.{option_map_or}
use Rattle.std.specs.List.{list_all}
use Rattle.std.specs.Str.{bytes_eq}
use Rattle.ged_line.specs.Lines.{LineParts}
use Rattle.ged_line.specs.Characters.{is_plain}
use Rattle.ged_line.specs.Names.{is_tag, is_xref}
use Rattle.ged_tree.specs.Trees.{Structure, Trees, none, tree}
use Rattle.ged_tree.specs.DocumentLines.{document_lines}
use Rattle.ged_tree.specs.declared.payload.Payload.{Payload}
use Rattle.ged_tree.specs.declared.payload.Payload.TheVariants.{Void, Pointer, Text}

-- a text has at least one line, and at level 99, below which no CONT can stand, one line only; each line is UTF-8, and its
-- characters may stand in a line
abbrev pub is_payload_at : ℕ → Payload → Bool
is_payload_at level Void = true
is_payload_at level (Pointer name) = is_xref name
is_payload_at level (Text []) = false
is_payload_at level (Text (line ∷ [])) = is_plain line
is_payload_at level (Text (line ∷ next ∷ lines)) = nat_lt level 99 && list_all is_plain (line ∷ next ∷ lines)

-- levels go to 99, CONT is no structure's tag, and only records carry a cross-reference identifier
abbrev pub is_structure_at : ℕ → Structure → Bool
is_structure_at level s = nat_le level 99 && (is_tag s.tag && not (bytes_eq s.tag (codes "CONT")))
    && (option_map_or (λ name. (level == 0) && is_xref name) s.xref true && is_payload_at level s.payload)

-- trees whose first structures stand at this level
abbrev pub are_at : ℕ → Trees → Bool
are_at level none = true
are_at level (tree s below next) = is_structure_at level s && (are_at (level + 1) below && are_at level next)

-- HEAD and TRLR are no record's tags
abbrev pub are_records : Trees → Bool
are_records none = true
are_records (tree s below next) = (not (bytes_eq s.tag (codes "HEAD")) && not (bytes_eq s.tag (codes "TRLR"))) && are_records next

-- HEAD's tree, and then the records'; with TRLR's they have fewer than 2 ^ 63 lines
abbrev pub is_document : Trees → Bool
is_document none = false
is_document (tree s below next) = ((bytes_eq s.tag (codes "HEAD") && is_none s.xref) && are_records next)
    && (are_at 0 (tree s below next) && nat_lt (length (document_lines (tree s below next))) (2 ^ 63))

-- the document has these lines
pub record HasLines (document : Trees) (lines : List LineParts) : Type 0 where
  pub allowed : is_document document ≡ true
  pub told : lines ≡ document_lines document
