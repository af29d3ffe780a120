-- Nothing here need be believed: only private contracts and proofs cite it.
-- The own lines and the further lines of a table's structures; only the table's own functions cite this.
use Rattle.std.specs.Prelude.{◌≡◌, ℕ, ◌+◌, ◌<◌, Bool, not, if◌then◌else◌, true, false, List, [], ◌∷◌, ◌++◌, map, take, drop, length, Option, IfSome, Some}
use Rattle.std.specs.List.{filter, list_all, AllByRecursion}
use Rattle.std.specs.List.Sorted.{IsNonDecreasingBy}
use Rattle.std.specs.Str.{IsCharBoundary}
use Rattle.ged_line.specs.Bytes.{Bytes}
use Rattle.ged_line.specs.Lines.{LineParts, is_line, Value}
use Rattle.ged_line.specs.Lines as value
use Rattle.ged_line.specs.Spelling.{LineText}
use Rattle.ged_line.specs.declared.file.spelled_line.SpelledLine.{SpelledLine}
use Rattle.ged_tree.specs.DocumentLines.{line_value}
use Rattle.ged_tree.specs.TreeFaults.{is_cont, is_trailer, Pass, FirstTreeFault, fault_after}
use Rattle.ged_tree.specs.Judging.{StandsFor}
use Rattle.ged_tree.specs.inner.Growing.{HasSizes}
use Rattle.ged_tree.specs.Rows.{Shown, shown_with, shown_from, kept_further, line_shown, IsSpelled, HasSlice, deeper, kept_levels, size_of_first, texts_of, places_of, Further, further_of, HasFurther}
use Rattle.ged_tree.specs.declared.fault.BuildFault.{BuildFault}
use Rattle.ged_tree.specs.declared.fault.BuildFault.TheVariants.{At, Memory}
use Rattle.ged_tree.specs.declared.forest.payload.PayloadView.{PayloadView}
use Rattle.ged_tree.specs.declared.forest.payload.PayloadView.TheVariants.{Void, Pointer, Text}
use Rattle.ged_tree.specs.declared.forest.continuations.FurtherTable.{FurtherTable}
use Rattle.ged_tree.specs.declared.table.packed.KeptStructure.{KeptStructure}
use Rattle.ged_tree.specs.declared.table.packed.TextApart.{TextApart}
use Rattle.ged_tree.specs.declared.table.builder.TableBuilder.{TableBuilder}

-- the text that a line's value gives a payload
abbrev pub line_text : Value → Bytes
line_text value.Empty = []
line_text value.Void = []
line_text (value.Pointer name) = []
line_text (value.Text text) = text

-- the value of the line on which a payload begins
abbrev pub own_value : PayloadView → Value
own_value Void = value.Void
own_value (Pointer name) = value.Pointer name.now
own_value (Text first) = line_value first.now

-- a structure's own line, and whether further lines of its payload follow it
pub record OwnLine : Type 0 where
  pub line : LineParts
  pub goes_on : Bool

abbrev pub own_line : Shown → OwnLine
own_line s = record {
  line = line_shown s;
  goes_on = s.has_further;
}

abbrev pub begins_cont : List LineParts → Bool
begins_cont [] = false
begins_cont (line ∷ lines) = is_cont line

-- the lines that are no CONT
abbrev pub own_lines : List LineParts → List OwnLine
own_lines [] = []
own_lines (line ∷ lines) =
    if is_cont line then own_lines lines
    else record { line = line; goes_on = begins_cont lines } ∷ own_lines lines

-- the last of the lines goes on
abbrev pub go_on : List OwnLine → List OwnLine
go_on [] = []
go_on (r ∷ []) = record { line = r.line; goes_on = true } ∷ []
go_on (r ∷ next ∷ rs) = r ∷ go_on (next ∷ rs)

-- for each CONT line how many lines that are no CONT stand before it, where so many stand before all
abbrev pub further_places : ℕ → List LineParts → List ℕ
further_places place [] = []
further_places place (line ∷ lines) =
    if is_cont line then place ∷ further_places place lines else further_places (place + 1) lines

-- the texts of the CONT lines
abbrev pub further_texts : List LineParts → List Bytes
further_texts [] = []
further_texts (line ∷ lines) = if is_cont line then line_text line.value ∷ further_texts lines else further_texts lines

-- how many structures stand below the one at a place
abbrev pub size_at : List KeptStructure → ℕ → ℕ
size_at structures place = size_of_first (drop place structures)

-- the first place from a place on that has no greater level
abbrev pub end_from : ℕ → List KeptStructure → ℕ → ℕ
end_from level structures place = place + deeper level (kept_levels (drop place structures))

-- the same structures, the last of which goes on
pub record TellsFurther (old new : List KeptStructure) : Type 0 where
  pub count : length new ≡ length old
  pub structures : (file : Bytes) (apart : List TextApart) → map own_line (shown_from file apart 0 new) ≡ go_on (map own_line (shown_from file apart 0 old))
  pub spelled : (file : Bytes) (apart : List TextApart) → AllByRecursion IsSpelled (shown_from file apart 0 old) → AllByRecursion IsSpelled (shown_from file apart 0 new)
  pub slices : (file : Bytes) → AllByRecursion (HasSlice file) old → AllByRecursion (HasSlice file) new
  pub levels : kept_levels new ≡ kept_levels old

-- the text is the slice of the file from this place on
pub record IsSliceAt (file : Bytes) (start : ℕ) (text : Bytes) : Type 0 where
  pub begins : IsCharBoundary file start
  pub ends : IsCharBoundary file (start + length text)
  pub text_is : take (length text) (drop start file) ≡ text

-- the text spells the line, and where a place in the file is told, it is the slice from there on
pub record IsSpelledAt (file : Bytes) (start : Option ℕ) (spelled : SpelledLine) : Type 0 where
  pub text : LineText spelled.line spelled.text.now
  pub slice : IfSome start (λ at. IsSliceAt file at spelled.text.now)

-- one more further line, behind the others
pub record IsFurtherPut (file : Bytes) (old new : FurtherTable) (after : ℕ) (text : Bytes) : Type 0 where
  pub lines : further_of file new ≡ further_of file old ++ record { after = after; text = text } ∷ []
  pub slices : HasFurther file old → HasFurther file new

-- the lines but TRLR
abbrev pub but_trailer : List LineParts → List LineParts
but_trailer lines = filter (λ line. not (is_trailer line)) lines

-- what a table's structures show
abbrev pub table_shown : TableBuilder → List Shown
table_shown builder = shown_from builder.file.now builder.apart.items 0 builder.structures.items

-- the further lines of a table's structures
abbrev pub table_further : TableBuilder → List Further
table_further builder = further_of builder.file.now builder.further

-- the texts of a table's structures are lines, and stand where they are kept; and their sizes are kept
pub record IsKept (builder : TableBuilder) : Type 0 where
  pub spelled : AllByRecursion IsSpelled (table_shown builder)
  pub slices : AllByRecursion (HasSlice builder.file.now) builder.structures.items
  pub apart_within : AllByRecursion (λ text. text.place < length builder.structures.items) builder.apart.items
  pub apart_in_order : IsNonDecreasingBy (λ text. text.place) builder.apart.items
  pub further_slices : HasFurther builder.file.now builder.further
  pub sized : HasSizes (kept_levels builder.structures.items) builder.sizes

-- the structures and further lines of a table are those of lines without a fault
pub record HoldsLines (builder : TableBuilder) (lines : List LineParts) : Type 0 where
  pub judged : StandsFor builder.judge lines
  pub pass : Pass lines
  pub are_lines : list_all is_line lines ≡ true
  pub counted : builder.count ≡ length lines
  pub structures : map own_line (table_shown builder) ≡ own_lines (but_trailer lines)
  pub places : places_of (table_further builder) ≡ further_places 0 (but_trailer lines)
  pub further : texts_of (table_further builder) ≡ further_texts (but_trailer lines)
  pub kept : IsKept builder

-- own lines and one line more, or none
abbrev pub with_line : List OwnLine → List LineParts → List OwnLine
with_line own [] = own
with_line own (line ∷ lines) = if is_cont line then go_on own else own ++ record { line = line; goes_on = false } ∷ []

-- a structure with this text shows a line, and that no payload goes on
pub record Shows (line : LineParts) (text : Bytes) (s : KeptStructure) : Type 0 where
  pub line_is : line_shown (shown_with text s) ≡ line
  pub spelled : IsSpelled (shown_with text s)
  pub alone : kept_further s ≡ false

-- a structure more
pub record HasStructure (line : LineParts) (old new : TableBuilder) : Type 0 where
  pub judge : new.judge ≡ old.judge
  pub count : new.count ≡ old.count
  pub file : new.file ≡ old.file
  pub further : new.further ≡ old.further
  pub structures : IsKept old → map own_line (table_shown new) ≡ map own_line (table_shown old) ++ record { line = line; goes_on = false } ∷ []
  pub kept : IsKept old → IsKept new

-- a line more: its structure or its further line, where it is not TRLR
pub record IsPut (line : LineParts) (old new : TableBuilder) : Type 0 where
  pub judge : new.judge ≡ old.judge
  pub count : new.count ≡ old.count
  pub file : new.file ≡ old.file
  pub structures : IsKept old → map own_line (table_shown new) ≡ with_line (map own_line (table_shown old)) (but_trailer (line ∷ []))
  pub places : places_of (table_further new)
      ≡ places_of (table_further old) ++ further_places (length old.structures.items) (but_trailer (line ∷ []))
  pub further : texts_of (table_further new) ≡ texts_of (table_further old) ++ further_texts (but_trailer (line ∷ []))
  pub kept : IsKept old → IsKept new

-- a line more, for which the judge stands too
pub record IsTaken (line : LineParts) (old new : TableBuilder) : Type 0 where
  pub judged : (lines : List LineParts) → StandsFor old.judge lines → StandsFor new.judge (lines ++ line ∷ [])
  pub put : IsPut line (record old { judge = new.judge }) new

-- the fault is the lowest that stands at a line put after lines without a fault; of want of memory nothing is said
abbrev pub TellsLine : BuildFault → List LineParts → LineParts → Type 0
TellsLine (At at) lines line = Pass lines × (fault_after lines line ≡ Some at.fault) × (at.line ≡ length lines + 1)
TellsLine (Memory error) lines line = Unit {0}

-- the fault stands past the last of the lines; of want of memory nothing is said
abbrev pub TellsEnd : BuildFault → List LineParts → Type 0
TellsEnd (At at) lines = FirstTreeFault lines at.line at.fault
TellsEnd (Memory error) lines = Unit {0}
