-- The line that a text shows, computed from the text; only the functions of a flat table cite this.
use Rattle.std.specs.Prelude.{ℕ, ◌+◌, ◌==◌, if◌then◌else◌, [], ◌∷◌, List, length, drop, decimal, codes, Option, Some, None}
use Rattle.std.specs.List.{before_first}
use Rattle.std.specs.Str.{bytes_eq}
use Rattle.ged_line.specs.Bytes.{Bytes, at_sign}
use Rattle.ged_line.specs.Faults.{word}
use Rattle.ged_line.specs.Lines.{LineParts, line_parts, Value, Empty, Void, Pointer, Text}
use Rattle.ged_tree.specs.declared.payload.Payload.{Payload}
use Rattle.ged_tree.specs.declared.payload.Payload.TheVariants as payload

-- what stands up to an @ or the end
abbrev pub before_sign : Bytes → Bytes
before_sign bytes = before_first (λ c. c == at_sign) bytes

-- the name of the cross-reference identifier that the rest of a line begins with, behind the level's space
abbrev pub shown_xref : Bytes → Option Bytes
shown_xref [] = None
shown_xref (c ∷ cs) = if c == at_sign then Some (before_sign cs) else None

-- the rest of a line from its tag on
abbrev pub from_tag : Bytes → Bytes
from_tag [] = []
from_tag (c ∷ cs) = if c == at_sign then drop (length (before_sign cs) + 2) cs else c ∷ cs

abbrev pub shown_pointer : Bytes → Value
shown_pointer name = if bytes_eq name (codes "VOID") then Void else Pointer name

-- the value that stands behind a tag, with the space before it
abbrev pub shown_value : Bytes → Value
shown_value [] = Empty
shown_value (s ∷ []) = Empty
shown_value (s ∷ c ∷ []) = Text (c ∷ [])
shown_value (s ∷ c ∷ d ∷ ds) =
    if c == at_sign then (if d == at_sign then Text (d ∷ ds) else shown_pointer (before_sign (d ∷ ds)))
    else Text (c ∷ d ∷ ds)

-- the line of a level and of what stands behind the level's space
abbrev pub shown_rest : ℕ → Bytes → LineParts
shown_rest level rest =
    line_parts level (shown_xref rest) (word (from_tag rest)) (shown_value (drop (length (word (from_tag rest))) (from_tag rest)))

-- the line of a level and a whole text
abbrev pub shown_line : ℕ → Bytes → LineParts
shown_line level text = shown_rest level (drop (length (decimal level) + 1) text)

-- the payload of a line's value and of the further lines of its text
abbrev pub payload_from : Value → List Bytes → Payload
payload_from Empty further = payload.Text ([] ∷ further)
payload_from Void further = payload.Void
payload_from (Pointer name) further = payload.Pointer name
payload_from (Text text) further = payload.Text (text ∷ further)
