-- Nothing here need be believed: only private contracts and proofs cite it.
use Rattle.std.specs.Prelude.{◌≡◌, ◌≢◌, ◌∷◌, ◌⊎◌, Some, None}
use Rattle.std.specs.List.{last_or}
use Rattle.ged_line.specs.Bytes.{Bytes, carriage_return, line_feed}

-- what comes behind a front, but for a LF that belongs to the CR at the front's end
abbrev pub IsBehindEnd : Bytes → Bytes → Bytes → Type 0
IsBehindEnd front more rest = ((last_or None front ≡ Some carriage_return) × (more ≡ line_feed ∷ rest))
    ⊎ ((more ≡ rest) × (last_or None front ≡ Some carriage_return → (bytes : Bytes) → more ≢ line_feed ∷ bytes))
