-- Lines that stand in a text as the canonical spelling has them.
use Rattle.std.specs.Prelude.{◌≡◌, ℕ, ◌+◌, ◌<◌, ◌++◌, ◌∷◌, [], false, Some, decimal, length, slice_get, slice_range}
use Rattle.ged_line.specs.Bytes.{Bytes, line_feed, space}
use Rattle.ged_tree.specs.Trees.{Trees, further_lines}
use Rattle.ged_tree.specs.Places.{structure_at}
use Rattle.ged_tree.specs.DocumentLines.{rest_of_line}
use Rattle.ged_tree.specs.Rows.{kept_further, kept_level, kept_points, kept_tag_length}
use Rattle.ged_tree.specs.Views.{is_pointer}
use Rattle.ged_tree.specs.declared.table.bare_lines.BareLines.{BareLines}
use Rattle.ged_tree.specs.declared.table.packed.KeptStructure.{KeptStructure}

-- the text in which the lines stand
abbrev pub lines_text : BareLines → Bytes
lines_text lines = lines.text.now

-- a structure keeps its line as a slice, its tag stands behind the level and a space, and no space stands alone behind the tag
pub record KeepsBare (s : KeptStructure) : Type 0 where
  pub sliced : s.length < 255
  pub tagged : 0 < kept_tag_length s
  pub front : s.tag_start ≡ length (decimal (kept_level s)) + 1
  pub ends : ¬ (s.length ≡ s.tag_start + kept_tag_length s + 1)

-- a structure keeps such a line, and a line feed stands behind it in the text
pub record IsBare (text : Bytes) (s : KeptStructure) : Type 0 where
  pub kept : KeepsBare s
  pub feed : slice_get text (s.start + s.length) ≡ Some line_feed

-- a line spells the level and what stands on the own line of the document's structure at this place from the tag on; whether that is a
-- pointer is kept, and whether further lines of the payload follow
pub record TellsOwnLine (d : Trees) (place : ℕ) (text : Bytes) (s : KeptStructure) : Type 0 where
  pub line : slice_range text s.start (s.start + s.length + 1) ≡ (decimal (kept_level s) ++ space ∷ rest_of_line (structure_at d place)) ++ line_feed ∷ []
  pub points : kept_points s ≡ is_pointer (structure_at d place).payload
  pub alone : kept_further s ≡ false → length (further_lines (structure_at d place).payload) ≡ 0

-- each such line of a table tells of the document's structure at its place
abbrev pub AreBareLines : Trees → BareLines → Type 0
AreBareLines d lines = (place : ℕ) (s : KeptStructure) → slice_get lines.structures.now place ≡ Some s → IsBare (lines_text lines) s → TellsOwnLine d place (lines_text lines) s
