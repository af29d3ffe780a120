-- Nothing here need be believed: only private contracts and proofs cite it.
-- Numbers that are read digit by digit.
use Rattle.std.specs.Prelude.{ℕ, ◌+◌, ◌-◌, ◌*◌}
use Rattle.std.specs.List.{fold}
use Rattle.ged_value.specs.Words.{Bytes}

-- the number that digits spell after those of n
abbrev pub number_after : ℕ → Bytes → ℕ
number_after n text = fold (λ m c. 10 * m + (c - 0x30)) n text
