-- The faults of lines, by which they are no document's (FamilySearch GEDCOM 7.0, "Lines" and "Structures").
use Rattle.std.specs.Prelude.{◌≡◌, ◌≢◌, ℕ, ◌+◌, Bool, true, false, ◌&&◌, ◌||◌, ◌==◌, not, if◌then◌else◌, nat_lt, List, [], ◌∷◌, ◌++◌, length, Option, Some, None, is_some, is_none, codes}
use Rattle.std.specs.List.{list_any, last_or, find}
use Rattle.std.specs.Str.{bytes_eq}
use Rattle.ged_line.specs.Lines.{LineParts, Value, Empty, Void, Pointer, Text}
use Rattle.ged_tree.specs.declared.fault.TreeFault.{TreeFault}
use Rattle.ged_tree.specs.declared.fault.TreeFault.TheVariants.{Line, LevelJump, XrefNotAllowed, MisplacedCont, NoHeader, SecondHeader, TrailerNotEmpty, AfterTrailer, NoTrailer}

abbrev pub is_cont : LineParts → Bool
is_cont line = bytes_eq line.tag (codes "CONT")

-- HEAD at level 0
abbrev pub is_header : LineParts → Bool
is_header line = (line.level == 0) && bytes_eq line.tag (codes "HEAD")

-- TRLR at level 0
abbrev pub is_trailer : LineParts → Bool
is_trailer line = (line.level == 0) && bytes_eq line.tag (codes "TRLR")

-- a pointer or void
abbrev pub is_reference : Value → Bool
is_reference Empty = false
is_reference Void = true
is_reference (Pointer name) = true
is_reference (Text text) = false

abbrev pub is_empty : Value → Bool
is_empty Empty = true
is_empty Void = false
is_empty (Pointer name) = false
is_empty (Text text) = false

-- the last of the lines so far, straight after which the next one stands
abbrev pub line_before : List LineParts → Option LineParts
line_before lines = last_or None lines

-- TRLR has come
abbrev pub has_trailer : List LineParts → Bool
has_trailer lines = list_any is_trailer lines

-- the level is more than one above that of the line before, or the first line's is not 0
abbrev pub jumps : Option LineParts → LineParts → Bool
jumps None line = nat_lt 0 line.level
jumps (Some before) line = nat_lt (before.level + 1) line.level

-- a cross-reference identifier above level 0, or on HEAD or TRLR
abbrev pub has_forbidden_xref : LineParts → Bool
has_forbidden_xref line = is_some line.xref && (nat_lt 0 line.level || is_header line || is_trailer line)

-- the line stands straight after a CONT of its own level, or after a line one level smaller that is no CONT and has no
-- pointer or void
abbrev pub continues : Option LineParts → LineParts → Bool
continues None line = false
continues (Some before) line = if is_cont before then before.level == line.level
    else (before.level + 1 == line.level) && not (is_reference before.value)

-- a CONT at level 0, with a pointer or void, or not straight after a line that it may go on with
abbrev pub is_misplaced_cont : Option LineParts → LineParts → Bool
is_misplaced_cont before line = is_cont line && ((line.level == 0) || is_reference line.value || not (continues before line))

-- the line stands straight after a CONT with a smaller level
abbrev pub is_below_cont : Option LineParts → LineParts → Bool
is_below_cont None line = false
is_below_cont (Some before) line = is_cont before && nat_lt before.level line.level

-- the fault stands at a line that comes after the lines so far
abbrev pub stands : List LineParts → LineParts → TreeFault → Bool
stands lines line (Line fault) = false
stands lines line LevelJump = jumps (line_before lines) line
stands lines line XrefNotAllowed = has_forbidden_xref line
stands lines line MisplacedCont = is_misplaced_cont (line_before lines) line || is_below_cont (line_before lines) line
stands lines line NoHeader = is_none (line_before lines) && not (is_header line)
stands lines line SecondHeader = is_some (line_before lines) && is_header line
stands lines line TrailerNotEmpty = (is_trailer line && not (is_empty line.value)) || (has_trailer lines && nat_lt 0 line.level)
stands lines line AfterTrailer = has_trailer lines && (line.level == 0)
stands lines line NoTrailer = false

-- the faults that stand at a line, in the order of their numbers
abbrev pub line_faults : List TreeFault
line_faults = LevelJump ∷ XrefNotAllowed ∷ MisplacedCont ∷ NoHeader ∷ SecondHeader ∷ TrailerNotEmpty ∷ AfterTrailer ∷ []

-- the fault of the lowest number that stands at a line that comes after the lines so far
abbrev pub fault_after : List LineParts → LineParts → Option TreeFault
fault_after lines line = find (stands lines line) line_faults

-- no fault stands at any of the lines
pub data Pass : List LineParts → Type 0 where
  start : Pass []
  more : (lines : List LineParts) (line : LineParts) → Pass lines → fault_after lines line ≡ None → Pass (lines ++ line ∷ [])

-- the lines' first fault and where it stands, lines being counted from 1: the lowest at the first line that has one; with
-- no lines, that HEAD is missing; where all pass and none is TRLR, that it is missing past the last
pub data FirstTreeFault : List LineParts → ℕ → TreeFault → Type 0 where
  at_line : (before after : List LineParts) (line : LineParts) (fault : TreeFault) → Pass before → fault_after before line ≡ Some fault
      → FirstTreeFault (before ++ line ∷ after) (length before + 1) fault
  no_lines : FirstTreeFault [] 1 NoHeader
  past_last : (lines : List LineParts) → Pass lines → lines ≢ [] → has_trailer lines ≡ false → FirstTreeFault lines (length lines + 1) NoTrailer
