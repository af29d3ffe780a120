-- Nothing here need be believed: only private contracts and proofs cite it.
-- The ranks of tags, which are compared in place of the tags.
use Rattle.std.specs.Prelude.{ℕ, ◌+◌, ◌*◌, ◌%◌, zero, suc, [], ◌∷◌, cond, nat_lt, codes}
use Rattle.std.specs.Str.{bytes_eq}
use Rattle.ged_line.specs.Bytes.{Bytes}

-- 256 to the power of a number
abbrev pub unit : ℕ → ℕ
unit zero = 1
unit (suc n) = 256 * unit n

-- the first n bytes as one number, the first byte in the highest place; zeros take the place of those that a shorter text lacks
abbrev pub front : ℕ → Bytes → ℕ
front zero tag = 0
front (suc n) [] = 0
front (suc n) (first ∷ rest) = first * unit n + front n rest

-- how many bytes there are; more than n count as one more
abbrev pub counted : ℕ → Bytes → ℕ
counted n [] = 0
counted zero (first ∷ rest) = 1
counted (suc n) (first ∷ rest) = counted n rest + 1

-- seven bytes, and behind them how many there are
abbrev pub own_rank : Bytes → ℕ
own_rank tag = front 7 tag * 256 + (counted 7 tag + 1)

-- GEDC has the lowest rank
abbrev pub tag_rank : Bytes → ℕ
tag_rank tag = cond (bytes_eq tag (codes "GEDC")) 0 (own_rank tag)

-- what a rank does not tell of a tag: nothing, or, where the tag has more than seven bytes, all of it
abbrev pub rest_of_tag : ℕ → Bytes → Bytes
rest_of_tag rank tag = cond (nat_lt 8 (rank % 256)) tag []
