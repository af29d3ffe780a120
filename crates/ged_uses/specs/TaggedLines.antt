-- How many lines have a tag (FamilySearch GEDCOM 7.0, "Lines").
use Rattle.std.specs.Prelude.{◌≡◌, ℕ, ◌+◌, List, [], ◌∷◌, ◌⊎◌}
use Rattle.ged_line.specs.Bytes.{Bytes}
use Rattle.ged_line.specs.Lines.{LineParts}
use Rattle.ged_line.specs.Spelling.{LineText}

-- the piece spells a line with the tag
abbrev pub HasTag : Bytes → Bytes → Type 0
HasTag tag piece = (line : LineParts) × LineText line piece × (line.tag ≡ tag)

-- so many of the pieces spell a line with the tag
abbrev pub CountsTag : Bytes → List Bytes → ℕ → Type 0
CountsTag tag [] count = count ≡ 0
CountsTag tag (piece ∷ pieces) count =
    (HasTag tag piece × ((others : ℕ) × (count ≡ others + 1) × CountsTag tag pieces others))
    ⊎ (¬ (HasTag tag piece) × CountsTag tag pieces count)
