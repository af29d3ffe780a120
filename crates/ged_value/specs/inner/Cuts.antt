-- Nothing here need be believed: only private contracts and proofs cite it.
-- How a text is cut at a character: the one answer of a private function.
use Rattle.std.specs.Prelude.{ℕ, [], ◌∷◌, ◌==◌, Option, Some, None, if◌then◌else◌}
use Rattle.std.specs.Option.{option_map_or}
use Rattle.ged_value.specs.Words.{Bytes}

-- what stands before the first such character, and what stands behind it
abbrev pub cut_at : ℕ → Bytes → Bytes × Option Bytes
cut_at character [] = ([], None)
cut_at character (b ∷ bs) = if b == character then ([], Some bs) else (b ∷ (cut_at character bs).0, (cut_at character bs).1)

-- the character and what stands behind it, where there is such a part
abbrev pub marked : ℕ → Option Bytes → Bytes
marked character part = option_map_or (λ behind. character ∷ behind) part []
