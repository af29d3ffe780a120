-- A payload by its first line and its further lines, and the own line of a structure.
use Rattle.std.specs.Prelude.{◌≡◌, List, ◌∷◌, Bool, true, false}
use Rattle.ged_line.specs.Bytes.{Bytes}
use Rattle.ged_tree.specs.Trees.{Structure}
use Rattle.ged_tree.specs.DocumentLines.{rest_of_line}
use Rattle.ged_tree.specs.declared.payload.Payload.{Payload}
use Rattle.ged_tree.specs.declared.payload.Payload.TheVariants.{Void, Pointer, Text}
use Rattle.ged_tree.specs.declared.forest.own_line.OwnLine.{OwnLine}
use Rattle.ged_tree.specs.declared.forest.payload.PayloadView.{PayloadView}
use Rattle.ged_tree.specs.declared.forest.payload.PayloadView.TheVariants as views

-- the payload of a first line, as it is seen, and the lines past it
abbrev pub payload_of : PayloadView → List Bytes → Payload
payload_of views.Void further = Void
payload_of (views.Pointer name) further = Pointer name.now
payload_of (views.Text first) further = Text (first.now ∷ further)

-- the payload is a pointer that names a record
abbrev pub is_pointer : Payload → Bool
is_pointer Void = false
is_pointer (Pointer name) = true
is_pointer (Text lines) = false

-- the tag of a structure, what stands on its own line from the tag on, in the canonical spelling, and whether a pointer stands there;
-- where the line stands in a file is not told
pub record IsOwnLine (s : Structure) (line : OwnLine) : Type 0 where
  pub tag : line.tag.now ≡ s.tag
  pub rest : line.rest.now ≡ rest_of_line s
  pub points : line.points ≡ is_pointer s.payload
