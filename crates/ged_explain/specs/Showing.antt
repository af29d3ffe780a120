-- Lines of a file as they are shown.
use Rattle.std.specs.Prelude.{◌≡◌, ◌≤◌, ◌<◌, ◌-◌, ℕ, List, [], ◌∷◌, ◌++◌, Option, None, MatchOption, codes, length, slice_get, IsUtf8}
use Rattle.std.specs.List.{All}
use Rattle.std.specs.Str.{NoCharPasses}
use Rattle.ged_line.specs.Bytes.{Bytes, line_feed}
use Rattle.ged_line.specs.Pieces.{ArePiecesOf}
use Rattle.ged_explain.specs.Characters.{is_unseen}

-- the byte is a character of ASCII that is seen, or a space
abbrev pub IsSign : ℕ → Type 0
IsSign byte = (32 ≤ byte) × (byte < 127)

-- a line that is shown as it is: no more than 120 such characters
abbrev pub IsPlain : Bytes → Type 0
IsPlain piece = IsUtf8 piece × (length piece ≤ 120) × All IsSign piece

-- each character of the text is seen as it is: none is a control character, turns the direction of a text, or is invisible
abbrev pub IsSeen : Bytes → Type 0
IsSeen text = NoCharPasses is_unseen text

-- what is shown of a line: each character is seen, and a plain line stands as it is
abbrev pub IsSeenLine : (piece seen : Bytes) → Type 0
IsSeenLine piece seen = IsSeen seen × (IsPlain piece → seen ≡ piece)

-- the text begins so
abbrev pub Begins : Bytes → Bytes → Type 0
Begins front text = (rest : Bytes) × (text ≡ front ++ rest)

-- what is shown behind the number of a line: a colon, what is shown of the line, and a line feed; or that the file has no line of this
-- number
abbrev pub IsShownAs : Option Bytes → Bytes → Type 0
IsShownAs piece shown = MatchOption piece
    (shown ≡ codes " is past the last line" ++ line_feed ∷ [])
    (λ piece. (seen : Bytes) × (shown ≡ codes ": " ++ (seen ++ line_feed ∷ [])) × IsSeenLine piece seen)

-- the line of this number, counted from 1, if the file has one; there is none at 0
abbrev pub IsPieceAt : Bytes → ℕ → Option Bytes → Type 0
IsPieceAt bytes line piece = (line ≡ 0 → piece ≡ None)
    × (0 < line → (pieces : List Bytes) × ArePiecesOf bytes pieces × (piece ≡ slice_get pieces (line - 1)))

-- so the line of this number is shown
abbrev pub ShowsPiece : Bytes → ℕ → Bytes → Type 0
ShowsPiece bytes line shown = (piece : Option Bytes) × IsPieceAt bytes line piece × IsShownAs piece shown
