-- Nothing here need be believed: only private contracts and proofs cite it.
-- What the structure tables tell of a document's lines, read one after the other (FamilySearch GEDCOM 7.0, "Structure Organization").
use Rattle.std.specs.Prelude.{◌≡◌, ◌≢◌, ℕ, ◌+◌, true, false, List, [], ◌∷◌, Some, None, IfSome, IsTrue, ◌⊎◌, ◌↔◌, get_or, slice_get}
use Rattle.std.specs.Int.{bit_at}
use Rattle.std.specs.Option.{option_map_or}
use Rattle.ged_line.specs.Bytes.{Bytes}
use Rattle.ged_line.specs.Lines.{LineParts, Value}
use Rattle.ged_line.specs.Lines.{Empty, Void, Pointer, Text}
use Rattle.ged_line.specs.Names.{is_standard_tag}
use Rattle.ged_tree.specs.TreeFaults.{is_cont, is_trailer}
use Rattle.ged_value.specs.declared.kind.Kind.{Kind}
use Rattle.ged_value.specs.Kinds.{FitsLine, takes_lines, takes_links}
use Rattle.ged_schema.specs.declared.context.Context.{Context}
use Rattle.ged_schema.specs.declared.context.Context.TheVariants.{File, Unchecked}
use Rattle.ged_schema.specs.Rows.{Row}
use Rattle.ged_schema.specs.Tables.{rows, row, context_below}
use Rattle.ged_schema.specs.Unlisted.{IsUnlisted}
use Rattle.ged_schema.specs.inner.Marks.{AreMarkedAsNeeded, MarksOneMore}
use Rattle.ged_schema.specs.declared.line_walk.Open.{Open}
use Rattle.ged_schema.specs.declared.line_walk.LineWalk.{LineWalk}

-- what stands open at a level: nothing is asked where nothing was opened
abbrev pub open_at : LineWalk → ℕ → Open
open_at walk level = get_or walk.open level (record { context = Unchecked; marks = 0 })

-- what a kind asks of the value of the line on which a payload begins, where the payload has no further lines
abbrev pub FitsValue : Kind → Value → Type 0
FitsValue kind Empty = FitsLine kind []
FitsValue kind Void = takes_links kind ≡ true
FitsValue kind (Pointer name) = takes_links kind ≡ true
FitsValue kind (Text text) = FitsLine kind text

-- the class of a value: the empty value, the void pointer, a pointer, or a text
abbrev pub value_class : Value → ℕ
value_class Empty = 0
value_class Void = 1
value_class (Pointer name) = 2
value_class (Text text) = 3

-- rows are marked once more: the row of the tag, which may have one structure more, and no other
abbrev pub MarksTag : List Row → Bytes → ℕ → ℕ → Type 0
MarksTag rs tag before after = (number : ℕ) (r : Row) → slice_get rs number ≡ Some r
    → (r.tag ≡ tag → (bit_at after number ≡ 1) × ((r.most ≡ None) ⊎ (bit_at before number ≡ 0)))
    × (r.tag ≢ tag → bit_at after number ≡ bit_at before number)

-- no row of what stands open at the level lacks a structure
abbrev pub IsClosed : LineWalk → ℕ → Type 0
IsClosed walk level = AreMarkedAsNeeded (rows (open_at walk level).context) (open_at walk level).marks

-- a structure's line at a level, in a context: the rows of the context are marked, and its own substructures may come
pub record Opens (context : Context) (level : ℕ) (line : LineParts) (old new : LineWalk) : Type 0 where
  pub closed : IsClosed old (level + 1)
  pub others : (other : ℕ) → other ≢ level → other ≢ level + 1 → open_at new other ≡ open_at old other
  pub here : (open_at new level).context ≡ context
  pub marked : MarksTag (rows context) line.tag (open_at old level).marks (open_at new level).marks
  pub below : open_at new (level + 1) ≡ record { context = context_below context line.tag; marks = 0 }
  pub fits : IfSome (row context line.tag) (λ r. FitsValue r.kind line.value)
  pub goes_on : takes_lines new.last ≡ option_map_or (λ r. takes_lines r.kind) (row context line.tag) true
  pub noted : (new.noted ≡ true) ↔ ((old.noted ≡ true) ⊎ IsUnlisted context line.tag)

-- the line of a structure whose row among those of its context is this one, with this number
pub record OpensListed (r : Row) (number level : ℕ) (value : Value) (old new : LineWalk) : Type 0 where
  pub others : (other : ℕ) → other ≢ level → other ≢ level + 1 → open_at new other ≡ open_at old other
  pub here : (open_at new level).context ≡ (open_at old level).context
  pub marked : MarksOneMore number (open_at old level).marks (open_at new level).marks
  pub free : (r.most ≡ None) ⊎ (bit_at (open_at old level).marks number ≡ 0)
  pub below : open_at new (level + 1) ≡ record { context = r.below; marks = 0 }
  pub fits : FitsValue r.kind value
  pub goes_on : takes_lines new.last ≡ takes_lines r.kind
  pub noted : new.noted ≡ old.noted

-- the line of a structure with this tag, which has no row in its context
pub record OpensUnlisted (context : Context) (level : ℕ) (tag : Bytes) (old new : LineWalk) : Type 0 where
  pub others : (other : ℕ) → other ≢ level + 1 → open_at new other ≡ open_at old other
  pub below : open_at new (level + 1) ≡ record { context = Unchecked; marks = 0 }
  pub goes_on : takes_lines new.last ≡ true
  pub noted : (new.noted ≡ true) ↔ ((old.noted ≡ true) ⊎ ((is_standard_tag tag ≡ true) × (context ≢ Unchecked)))

-- one line more: a CONT goes on with a payload of several lines, TRLR asks for nothing, and any other line is a structure's
pub data Takes (line : LineParts) (old new : LineWalk) : Type 0 where
  goes_on : is_cont line ≡ true → takes_lines old.last ≡ true → new ≡ old → Takes line old new
  ends : is_cont line ≡ false → is_trailer line ≡ true → new ≡ old → Takes line old new
  opens : is_cont line ≡ false → is_trailer line ≡ false → Opens (open_at old line.level).context line.level line old new
      → Takes line old new

-- no line has been read: HEAD or a record may come, and nothing else is asked
pub record IsFirst (walk : LineWalk) : Type 0 where
  pub file : open_at walk 0 ≡ record { context = File; marks = 0 }
  pub nothing : (level : ℕ) → level ≢ 0 → open_at walk level ≡ record { context = Unchecked; marks = 0 }
  pub noted : walk.noted ≡ false

-- all the lines, one after the other
abbrev pub Walks : LineWalk → List LineParts → LineWalk → Type 0
Walks old [] new = new ≡ old
Walks old (line ∷ lines) new = (walk : LineWalk) × Takes line old walk × Walks walk lines new

-- the lines were read, and each was as the tables ask
abbrev pub HasWalked : LineWalk → List LineParts → Type 0
HasWalked walk lines = IsTrue walk.holds → (first : LineWalk) × IsFirst first × Walks first lines walk
