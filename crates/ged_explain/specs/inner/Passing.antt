-- Nothing here need be believed: only private contracts and proofs cite it.
use Rattle.std.specs.Prelude.{◌≡◌, ℕ, List, drop}
use Rattle.ged_line.specs.Bytes.{Bytes}
use Rattle.ged_line.specs.Pieces.{ArePiecesOf}

-- so many pieces of the file were passed, and these are left
abbrev pub HasPassed : Bytes → ℕ → List Bytes → Type 0
HasPassed bytes passed rest = (pieces : List Bytes) × ArePiecesOf bytes pieces × (rest ≡ drop passed pieces)
