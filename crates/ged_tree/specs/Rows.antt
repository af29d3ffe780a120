-- The rows of a flat table, one for each structure; only functions of the table and of its further lines cite this.
use Rattle.std.specs.Prelude.{◌≡◌, ℕ, ◌+◌, ◌-◌, ◌%◌, ◌≤◌, ◌<◌, ◌==◌, slice_index_or, nat_lt, nat_le, if◌then◌else◌, Bool, true, false, List, [], ◌∷◌, ◌++◌, length, map, take, drop, decimal}
use Rattle.std.specs.List.{AllByRecursion}
use Rattle.std.specs.List.Sorted.{IsNonDecreasingBy}
use Rattle.std.specs.Str.{IsCharBoundary}
use Rattle.ged_line.specs.Bytes.{Bytes}
use Rattle.ged_line.specs.Lines.{LineParts, Value, xref_part}
use Rattle.ged_line.specs.Spelling.{LineText}
use Rattle.ged_line.specs.Lines as value
use Rattle.ged_tree.specs.Trees.{Structure, Trees, none, tree, trees_count, further_lines, line_count, lines_count}
use Rattle.ged_tree.specs.Documents.{is_document}
use Rattle.ged_tree.specs.Runs.{leading}
use Rattle.ged_tree.specs.Spelled.{shown_line, payload_from}
use Rattle.ged_tree.specs.declared.forest.continuations.FurtherApart.{FurtherApart}
use Rattle.ged_tree.specs.declared.forest.continuations.FurtherSlice.{FurtherSlice}
use Rattle.ged_tree.specs.declared.forest.continuations.FurtherTable.{FurtherTable}
use Rattle.ged_tree.specs.declared.table.closing.Sizes.{Sizes}
use Rattle.ged_tree.specs.declared.table.packed.KeptStructure.{KeptStructure}
use Rattle.ged_tree.specs.declared.table.packed.TextApart.{TextApart}

-- a structure, its level, the first place past all below it, its line, how many further lines its payload has, and
-- whether it has some
pub record TableRow : Type 0 where
  pub level : ℕ
  pub after : ℕ
  pub line : ℕ
  pub further : ℕ
  pub goes_on : Bool
  pub structure : Structure

-- the rows of trees whose first structure stands at this level, place and line
abbrev pub rows_of : ℕ → ℕ → ℕ → Trees → List TableRow
rows_of level place line none = []
rows_of level place line (tree s below next) =
    record {
      level = level;
      after = place + (1 + trees_count below);
      line = line;
      further = length (further_lines s.payload);
      goes_on = nat_lt 0 (length (further_lines s.payload));
      structure = s;
    }
    ∷ (rows_of (level + 1) (place + 1) (line + line_count s.payload) below
    ++ rows_of level (place + (1 + trees_count below)) (line + (line_count s.payload + lines_count below)) next)

-- what stands after the first of the trees, as many as have that many structures
abbrev pub trailing : Trees → ℕ → Trees
trailing none count = none
trailing (tree s below next) count =
    if count == 0 then tree s below next
    else trailing next (count - 1 - trees_count below)

-- the trees of rows, the first of which stands at this place
abbrev pub trees_of_rows : ℕ → List TableRow → Trees
trees_of_rows place [] = none
trees_of_rows place (r ∷ rs) =
    tree r.structure
    (leading (trees_of_rows (place + 1) rs) (r.after - (place + 1)))
    (trailing (trees_of_rows (place + 1) rs) (r.after - (place + 1)))

-- the value is a pointer that names a record
abbrev pub names_record : Value → Bool
names_record value.Empty = false
names_record value.Void = false
names_record (value.Pointer name) = true
names_record (value.Text text) = false

-- what a table shows of a structure: the whole line on which it begins, its level, where its tag begins in the line, how
-- many bytes the tag has, or 0 where that is not kept, whether a pointer stands behind it, and whether its payload has lines
-- past the first
pub record Shown : Type 0 where
  pub text : Bytes
  pub level : ℕ
  pub tag_start : ℕ
  pub tag_length : ℕ
  pub points : Bool
  pub has_further : Bool

-- the level of a structure, and whether its payload has lines past the first, in one mark
abbrev pub kept_level : KeptStructure → ℕ
kept_level s = s.mark % 128

abbrev pub kept_further : KeptStructure → Bool
kept_further s = nat_lt 127 s.mark

-- the length of a structure's tag, and whether a pointer stands behind it, in one mark
abbrev pub kept_tag_length : KeptStructure → ℕ
kept_tag_length s = s.tag_mark % 128

abbrev pub kept_points : KeptStructure → Bool
kept_points s = nat_lt 127 s.tag_mark

-- the text of the structure at a place among those kept apart; there is none where it is empty
abbrev pub text_apart : List TextApart → ℕ → Bytes
text_apart [] place = []
text_apart (text ∷ texts) place = if text.place == place then text.text.now else text_apart texts place

-- the text of a structure at a place: a slice of the file, or one kept apart
abbrev pub text_at : Bytes → List TextApart → ℕ → KeptStructure → Bytes
text_at file apart place s = if s.length == 255 then text_apart apart place else take s.length (drop s.start file)

-- a structure with this text
abbrev pub shown_with : Bytes → KeptStructure → Shown
shown_with text s = record { text = text; level = kept_level s; tag_start = s.tag_start; tag_length = kept_tag_length s; points = kept_points s; has_further = kept_further s }

-- structures, the first of which stands at this place
abbrev pub shown_from : Bytes → List TextApart → ℕ → List KeptStructure → List Shown
shown_from file apart place [] = []
shown_from file apart place (s ∷ rest) = shown_with (text_at file apart place s) s ∷ shown_from file apart (place + 1) rest

-- the file may be cut at both ends of a structure's slice
abbrev pub HasSlice : Bytes → KeptStructure → Type 0
HasSlice file s = s.length < 255 → IsCharBoundary file s.start × IsCharBoundary file (s.start + s.length)

-- the line that a structure's text shows
abbrev pub line_shown : Shown → LineParts
line_shown s = shown_line s.level s.text

-- Where a structure keeps the length of its tag, it keeps where the tag begins in its text too: behind the level, a space
-- and a cross-reference identifier; and whether a pointer stands behind the tag.
abbrev pub HasTagKept : Shown → Type 0
HasTagKept s = 0 < s.tag_length
    → ((s.tag_start ≡ length (decimal s.level) + 1 + length (xref_part (line_shown s).xref)) × (s.tag_length ≡ length (line_shown s).tag))
    × (s.points ≡ names_record (line_shown s).value)

-- the text spells the line that it shows, and the tag stands where it is kept
abbrev pub IsSpelled : Shown → Type 0
IsSpelled s = LineText (line_shown s) s.text × HasTagKept s

-- a further line of a payload: the place past the structure whose it is, and its text
pub record Further : Type 0 where
  pub after : ℕ
  pub text : Bytes

-- the further lines of a table: slices of the file, and then those whose texts are kept
abbrev pub sliced : Bytes → FurtherSlice → Further
sliced file line = record { after = line.after; text = take line.length (drop line.start file) }

abbrev pub set_apart : FurtherApart → Further
set_apart line = record { after = line.after; text = line.text.now }

abbrev pub further_of : Bytes → FurtherTable → List Further
further_of file table = map (sliced file) table.slices.items ++ map set_apart table.apart.items

-- the file may be cut at both ends of each slice
abbrev pub HasFurther : Bytes → FurtherTable → Type 0
HasFurther file table = AllByRecursion (λ line. IsCharBoundary file line.start × IsCharBoundary file (line.start + line.length)) table.slices.items

-- the texts of further lines, and the places past the structures whose they are
abbrev pub texts_of : List Further → List Bytes
texts_of further = map (λ line. line.text) further

abbrev pub places_of : List Further → List ℕ
places_of further = map (λ line. line.after) further

-- how many further lines stand before the structure at a place, where each has the place past its structure's
abbrev pub further_before : ℕ → List ℕ → ℕ
further_before place [] = 0
further_before place (after ∷ afters) = if nat_le after place then 1 + further_before place afters else 0

-- how many further lines the structure at a place has
abbrev pub further_at : ℕ → List ℕ → ℕ
further_at place afters = further_before (place + 1) afters - further_before place afters

-- how many of the levels at the front are greater
abbrev pub deeper : ℕ → List ℕ → ℕ
deeper level [] = 0
deeper level (next ∷ levels) = if nat_lt level next then 1 + deeper level levels else 0

abbrev pub levels_of : List Shown → List ℕ
levels_of structures = map (λ s. s.level) structures

abbrev pub kept_levels : List KeptStructure → List ℕ
kept_levels structures = map kept_level structures

-- how many structures stand below the first of these
abbrev pub size_of_first : List KeptStructure → ℕ
size_of_first [] = 0
size_of_first (s ∷ rest) = deeper (kept_level s) (kept_levels rest)

-- the sizes that a table keeps are true: from a place on each structure's byte, unless it is 255, and those kept apart
pub record AreSizes (structures : List KeptStructure) (sizes : Sizes) (from : ℕ) : Type 0 where
  pub count : length sizes.bytes.items ≡ length structures
  pub bytes : (place : ℕ) → from ≤ place → slice_index_or sizes.bytes.items place 0 < 255 → slice_index_or sizes.bytes.items place 0 ≡ size_of_first (drop place structures)
  pub large : AllByRecursion (λ large. large.size ≡ size_of_first (drop large.place structures)) sizes.large.items

-- the row that a structure of a table stands for, at this place and before these others
abbrev pub row_of : List Bytes → List ℕ → ℕ → Shown → List Shown → TableRow
row_of texts afters place s rest = record {
  level = s.level;
  after = place + (1 + deeper s.level (levels_of rest));
  line = place + further_before place afters + 1;
  further = further_at place afters;
  goes_on = s.has_further;
  structure = record {
    xref = (line_shown s).xref;
    tag = (line_shown s).tag;
    payload = payload_from (line_shown s).value (take (further_at place afters) (drop (further_before place afters) texts));
  };
}

-- the rows of structures, the first of which stands at this place
abbrev pub rows_from : List Bytes → List ℕ → ℕ → List Shown → List TableRow
rows_from texts afters place [] = []
rows_from texts afters place (s ∷ rest) = row_of texts afters place s rest ∷ rows_from texts afters (place + 1) rest

abbrev pub flat_rows : List Shown → List Further → List TableRow
flat_rows structures further = rows_from (texts_of further) (places_of further) 0 structures

-- the trees that a table lists
abbrev pub flat_trees : List Shown → List Further → Trees
flat_trees structures further = trees_of_rows 0 (flat_rows structures further)

-- a table lists the structures of a document, from level 0, place 0 and line 1 on
pub record IsListed (structures : List Shown) (further : List Further) : Type 0 where
  pub listed : flat_rows structures further ≡ rows_of 0 0 1 (flat_trees structures further)
  pub document : is_document (flat_trees structures further) ≡ true
  pub spelled : AllByRecursion IsSpelled structures

-- the structures that a table keeps are those of a document
pub record IsFlat (file : Bytes) (apart : List TextApart) (structures : List KeptStructure) (sizes : Sizes) (further : FurtherTable) : Type 0 where
  pub lists : IsListed (shown_from file apart 0 structures) (further_of file further)
  pub sized : AreSizes structures sizes 0
  pub slices : AllByRecursion (HasSlice file) structures
  pub apart_in_order : IsNonDecreasingBy (λ text. text.place) apart
  pub further_slices : HasFurther file further
  pub further_in_order : IsNonDecreasingBy (λ line. line.after) further.slices.items × IsNonDecreasingBy (λ line. line.after) further.apart.items
