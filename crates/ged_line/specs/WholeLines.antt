-- Bytes that come one part after another, and those of their lines that are whole (FamilySearch GEDCOM 7.0, "Lines").
use Rattle.std.specs.Prelude.{◌≡◌, List, [], ◌++◌, ◌⊎◌, Some, None}
use Rattle.std.specs.List.{last_or}
use Rattle.ged_line.specs.Bytes.{Bytes, carriage_return, line_feed}
use Rattle.ged_line.specs.Pieces.{HasNoEnd, ArePiecesOf}

-- The last byte is a CR or LF. The last line is whole then: a LF that comes next after a CR belongs to that CR.
abbrev pub EndsLine : Bytes → Type 0
EndsLine bytes = (last_or None bytes ≡ Some carriage_return) ⊎ (last_or None bytes ≡ Some line_feed)

-- each line of the bytes is whole, or there is none
abbrev pub AreWhole : Bytes → Type 0
AreWhole bytes = (bytes ≡ []) ⊎ EndsLine bytes

-- the front of the bytes is their whole lines; what waits behind it has no line end
pub record IsWholeFront (bytes front : Bytes) : Type 0 where
  pub waiting : Bytes
  pub parts : bytes ≡ front ++ waiting
  pub whole : AreWhole front
  pub unended : HasNoEnd waiting

-- the pieces of whole lines stay what they are, whatever comes behind them
abbrev pub WholePiecesStay : Type 0
WholePiecesStay = (front more : Bytes) (pieces : List Bytes) → EndsLine front → ArePiecesOf front pieces
    → (others : List Bytes) × ArePiecesOf (front ++ more) (pieces ++ others)

-- the whole lines of bytes are one front of them
abbrev pub OneWholeFront : Type 0
OneWholeFront = (bytes front other : Bytes) → IsWholeFront bytes front → IsWholeFront bytes other → front ≡ other
