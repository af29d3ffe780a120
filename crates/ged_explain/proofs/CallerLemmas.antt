-- What the crates above cite.
use Rattle.std.proofs.Common.{ℕ, ◌^◌, ◌-◌, [], ◌++◌, ◌∷◌, true, false, codes, arith}
use Rattle.std.specs.Fmt.{digits, format_spec, padded_integral}
use Rattle.ged_explain.specs.Showing.{IsSeen, IsSign}
use Rattle.ged_explain.proofs.Seen.{Signs, signs_seen, number_signs}

-- a character that is told by its number is seen
pub numbered_seen : (w n : ℕ) → IsSeen (codes "U+" ++ padded_integral (format_spec 32 0 4 w (2 ^ 64 - 1)) false [] (digits 16 true n))
unfolding Signs
numbered_seen w n =
    let number = padded_integral (format_spec 32 0 4 w (2 ^ 64 - 1)) false [] (digits 16 true n) in
    let letter : IsSign 85 = (omega arith, omega arith) in
    let plus : IsSign 43 = (omega arith, omega arith) in
    signs_seen (85 ∷ 43 ∷ number) (letter, (plus, number_signs w n))
