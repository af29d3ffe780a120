-- Nothing here need be believed: only private contracts and proofs cite it.
-- Rows whose numbers of structures are judged by a mark for each row, a bit of a number. Only private functions cite what stands here.
use Rattle.std.specs.Prelude.{◌≡◌, ◌≢◌, ℕ, ◌+◌, ◌≤◌, ◌==◌, ◌&&◌, Bool, true, List, [], ◌∷◌, Option, Some, None}
use Rattle.std.specs.Int.{bit_at}
use Rattle.ged_schema.specs.Rows.{Row}

-- a greatest number of one, or none
abbrev pub allows_one : Option ℕ → Bool
allows_one None = true
allows_one (Some most) = most == 1

-- each of the rows, which are counted from a number on, allows one structure or any number of them, and asks for one
-- where the bit of its number is set, else for none
abbrev pub are_simple : ℕ → ℕ → List Row → Bool
are_simple needed number [] = true
are_simple needed number (r ∷ rs) = allows_one r.most && ((r.least == bit_at needed number) && are_simple needed (number + 1) rs)

-- the row is marked, and each other row is if it was before
abbrev pub MarksOneMore : ℕ → ℕ → ℕ → Type 0
MarksOneMore number before after = (bit_at after number ≡ 1) × ((other : ℕ) → other ≢ number → bit_at after other ≡ bit_at before other)

-- each needed row is marked
abbrev pub AreNeededMarked : ℕ → ℕ → Type 0
AreNeededMarked needed marks = (number : ℕ) → bit_at needed number ≤ bit_at marks number

-- the rows allow one structure or any number, and each that asks for one is marked
abbrev pub AreMarkedAsNeeded : List Row → ℕ → Type 0
AreMarkedAsNeeded rs marks = (needed : ℕ) × (are_simple needed 0 rs ≡ true) × AreNeededMarked needed marks
