-- The bits of permissions, in numbers.
use Rattle.std.proofs.Common.{◌≡◌, ℕ, ◌+◌, ◌*◌, ◌/◌, ◌%◌, ◌<◌, bit_and, bit_or, refl, ◌∙◌, arith}
use Rattle.std.proofs.lemmas.Nat.{and_mask, and_mod, and_le_l, or_shifted}
use Rattle.std.proofs.lemmas.Grind.{and_high_numeral}

-- the last nine bits
last_nine : (mode : ℕ) → bit_and mode 511 ≡ mode % 512
last_nine mode = and_mask mode 9

-- the bits of the owner stay where they are, and those that group and others both have are the others'
owner_and_both : (mode : ℕ) → mode < 512
    → bit_or (bit_and mode 448) (bit_and (bit_and mode (mode / 8)) 7) ≡ mode / 64 * 64 + bit_and (mode % 8) (mode / 8 % 8)
owner_and_both mode small =
    let both : bit_and (bit_and mode (mode / 8)) 7 ≡ bit_and (mode % 8) (mode / 8 % 8) = and_mask (bit_and mode (mode / 8)) 3 ∙ and_mod mode (mode / 8) 3 in
    let owner : bit_and mode 448 ≡ mode / 64 * 64 = omega (arith, and_high_numeral mode 447 refl small) in
    let few : bit_and (mode % 8) (mode / 8 % 8) < 64 = omega (arith, and_le_l (mode % 8) (mode / 8 % 8)) in
    (λ i. bit_or (owner i) (both i)) ∙ or_shifted (mode / 64) 6 (bit_and (mode % 8) (mode / 8 % 8)) few

-- the same of the last nine bits of a mode
pub for_another_group : (mode : ℕ)
    → bit_or (bit_and (bit_and mode 511) 448) (bit_and (bit_and (bit_and mode 511) (bit_and mode 511 / 8)) 7)
    ≡ mode / 64 % 8 * 64 + bit_and (mode % 8) (mode / 8 % 8)
for_another_group mode =
    let nine = bit_and mode 511 in
    let last = last_nine mode in
    let owner : nine / 64 ≡ mode / 64 % 8 = omega (arith, last) in
    let others : nine % 8 ≡ mode % 8 = omega (arith, last) in
    let group : nine / 8 % 8 ≡ mode / 8 % 8 = omega (arith, last) in
    owner_and_both nine (omega (arith, last)) ∙ (λ i. owner i * 64 + bit_and (others i) (group i))
