-- Nothing here need be believed: only private contracts and proofs cite it.
-- The structures of a document as the canonical form spells them, and what it is to write them; only private functions cite this.
use Rattle.std.specs.Prelude.{◌≡◌, ℕ, ◌+◌, ◌<◌, ◌≤◌, ◌++◌, Bool, true, ◌||◌, List, length, Option, option_map, Result, OnOk, codes, slice_range}
use Rattle.std.specs.Option.{option_copied}
use Rattle.std.specs.List.{list_all}
use Rattle.std.specs.Str.{bytes_eq}
use denote.Ref.{Bor}
use Rattle.ged_line.specs.Bytes.{Bytes}
use Rattle.ged_line.specs.Characters.{is_plain}
use Rattle.ged_line.specs.Lines.{LineParts}
use Rattle.ged_line.specs.Spelling.{spelled_lines}
use Rattle.ged_tree.specs.Trees.{Structure, Trees, trees_count, further_lines}
use Rattle.ged_tree.specs.Documents.{is_document, are_at}
use Rattle.ged_tree.specs.DocumentLines.{structure_lines, lines_of}
use Rattle.ged_tree.specs.Places.{structure_at, below_at}
use Rattle.ged_tree.specs.Runs.{IsRunOfTrees, trees_between}
use Rattle.ged_tree.specs.inner.DocumentParts.{continued}
use Rattle.ged_tree.specs.inner.Walks.{HasLinesAt}
use Rattle.ged_schema.specs.declared.context.Context.{Context}
use Rattle.ged_schema.specs.declared.rule.Rule.{Rule}
use Rattle.ged_schema.specs.Rows.{Row, as_row}
use Rattle.ged_schema.specs.Tables.{below_row}
use Rattle.ged_canon.specs.declared.edition.Edition.{Edition}
use Rattle.ged_canon.specs.declared.writer.answer.Answer.{Answer}
use Rattle.ged_canon.specs.declared.writer.plan.Plan.{Plan}
use Rattle.ged_canon.specs.declared.writer.siblings.Sibling.{Sibling}
use Rattle.ged_canon.specs.Steps.{renamed_payload, renamed}
use Rattle.ged_canon.specs.inner.Siblings.{StandsIn}
use Rattle.ged_canon.specs.inner.Working.{brief, sorted, number_of, IsNumberingOf}
use Rattle.ged_canon.specs.inner.Written.{Appends}

-- the row that a rule is, where there is one
abbrev pub row_of : Option (Bor Rule) → Option Row
row_of rule = option_map as_row (option_copied rule)

-- a payload with this tag may begin with the name of a calendar, in some context
abbrev pub may_be_dated : Bytes → Bool
may_be_dated tag = bytes_eq tag (codes "DATE") || bytes_eq tag (codes "SDATE")

-- the sibling at a place, by the tag of the structure there, wherever that is read
abbrev pub sibling_at : Trees → ℕ → Sibling
sibling_at d place = record { tag = record { ref_ptr = (0, 0); now = (structure_at d place).tag }; place = place }

-- the structure of a document at a sibling's place, with the sibling's tag, this identifier, and what is left of its payload
-- at a place with this row
abbrev pub brief_sibling : Edition → Option Row → Option Bytes → Trees → Sibling → Structure
brief_sibling edition r xref d sibling = record { xref = xref; tag = sibling.tag.now; payload = brief edition r (structure_at d sibling.place).payload }

-- the same with a new name in its pointer
abbrev pub renamed_sibling : (Bytes → Bytes) → Edition → Option Row → Option Bytes → Trees → Sibling → Structure
renamed_sibling new edition r xref d sibling = record { xref = xref; tag = sibling.tag.now; payload = renamed_payload new (brief edition r (structure_at d sibling.place).payload) }

-- its lines, and those of what stands below it
abbrev pub sibling_lines : (Bytes → Bytes) → Edition → Option Row → ℕ → Option Bytes → Trees → Sibling → List LineParts
sibling_lines new edition r level xref d sibling =
    structure_lines level (renamed_sibling new edition r xref d sibling)
    ++ lines_of (level + 1) (renamed new (sorted edition (below_row r) (below_at d sibling.place)))

-- the lines of the structures of a run that stand in a context, and of what stands below them
abbrev pub run_lines : (Bytes → Bytes) → Edition → Context → ℕ → Trees → ℕ → ℕ → List LineParts
run_lines new edition context level d start end = lines_of level (renamed new (sorted edition context (trees_between d start end)))

-- a structure with this row can be written, with what stands below it up to a place
pub record CanWriteTree (edition : Edition) (r : Option Row) (level : ℕ) (xref : Option Bytes) (d : Trees) (sibling : Sibling) (end : ℕ) : Type 0 where
  pub document : is_document d ≡ true
  pub within : StandsIn d sibling
  pub run : IsRunOfTrees d (sibling.place + 1) end
  pub deeper : trees_between d (sibling.place + 1) end ≡ below_at d sibling.place
  pub stands : HasLinesAt level (brief_sibling edition r xref d sibling)
  pub below : are_at (level + 1) (sorted edition (below_row r) (below_at d sibling.place)) ≡ true

-- the structures of a run that stand in a context can be written; they are no records
pub record CanWriteRun (edition : Edition) (context : Context) (level : ℕ) (d : Trees) (start end : ℕ) : Type 0 where
  pub document : is_document d ≡ true
  pub run : IsRunOfTrees d start end
  pub deep : 0 < level
  pub stand : are_at level (sorted edition context (trees_between d start end)) ≡ true

-- lines that stand together in a file, from one place up to another, are those of a run, in any context in which they can be written
abbrev pub AreLinesOfRun : Edition → Bytes → ℕ → Trees → ℕ → ℕ → (ℕ × ℕ) → Type 0
AreLinesOfRun edition file level d start end lines =
    (lines.0 ≤ lines.1)
    × ((new : Bytes → Bytes) (context : Context) → are_at level (sorted edition context (trees_between d start end)) ≡ true
    → slice_range file lines.0 lines.1 ≡ spelled_lines (run_lines new edition context level d start end))

-- the further lines of the payload at a place can be written, where its structure stands at a level
pub record CanWriteFurther (d : Trees) (place level : ℕ) : Type 0 where
  pub within : place < trees_count d
  pub shallow : level ≤ 99
  pub room : 0 < length (further_lines (structure_at d place).payload) → level < 99
  pub plain : list_all is_plain (further_lines (structure_at d place).payload) ≡ true

-- their CONT lines
abbrev pub further_at : Trees → ℕ → ℕ → List LineParts
further_at d place level = continued (level + 1) (further_lines (structure_at d place).payload)

-- lines with new names are appended to an answer, whatever the names are to which the plan's numbers belong
abbrev pub Writes : {T E : Type 0} → Trees → Plan → Result T E → Answer → Answer → ((Bytes → Bytes) → List LineParts) → Type 0
Writes d plan result old new lines =
    (names : List Bytes) → IsNumberingOf d names plan.index.now plan.numbers.now → OnOk result (Appends plan.file.now old new (spelled_lines (lines (number_of 1 names))))
