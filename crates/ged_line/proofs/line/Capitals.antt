-- Four capital letters, by the lanes of a vector.
use Rattle.std.proofs.Common.{◌≡◌, ℕ, ◌+◌, ◌*◌, ◌<◌, Bool, true, false, List, get_or, cond, ltb, zero, suc, refl, arith}
use Rattle.std.proofs.lemmas.Bool.Decides.{nat_tests}
use Rattle.std.specs.Simd.Lanes.{top}
use Rattle.std.specs.Char.{is_ascii_uppercase}

-- what `simd_clamp` gives at one lane
abbrev pub not_below : ℕ → ℕ
not_below x = cond (top 7 (cond (ltb x 65) 255 0)) 65 x

abbrev pub nearest : ℕ → ℕ
nearest x = cond (top 7 (cond (ltb (not_below x) 90) 255 0)) (not_below x) 90

-- what a mask reads of one lane
pub top_of : (p : Bool) → top 7 (cond p 255 0) ≡ p
top_of true = refl
top_of false = refl

nearest_is : (x : ℕ) → nearest x ≡ cond (ltb (cond (ltb x 65) 65 x) 90) (cond (ltb x 65) 65 x) 90
nearest_is x = rw (top_of (ltb x 65), top_of (ltb (cond (ltb x 65) 65 x) 90)) refl

pub nearest_small : (x : ℕ) → nearest x < 256
nearest_small x = let e = nearest_is x in grind (arith, nat_tests)

pub nearest_capital : (x : ℕ) → nearest x ≡ x → is_ascii_uppercase x ≡ true
nearest_capital x same = let e = nearest_is x in grind (arith, nat_tests)

-- the number that four bytes spell, the lowest first
abbrev pub number_of : ℕ → ℕ → ℕ → ℕ → ℕ
number_of a b c d = a + b * 256 + c * 65536 + d * 16777216

same_parts : (a b c d e f g h : ℕ) → a < 256 → b < 256 → c < 256 → d < 256 → e < 256 → f < 256 → g < 256 → h < 256
    → number_of a b c d ≡ number_of e f g h → (a ≡ e) × (b ≡ f) × (c ≡ g) × (d ≡ h)
same_parts a b c d e f g h s1 s2 s3 s4 s5 s6 s7 s8 same = (omega arith, omega arith, omega arith, omega arith)

four_places : (bytes : List ℕ) → is_ascii_uppercase (get_or bytes 0 0) ≡ true → is_ascii_uppercase (get_or bytes 1 0) ≡ true
    → is_ascii_uppercase (get_or bytes 2 0) ≡ true → is_ascii_uppercase (get_or bytes 3 0) ≡ true → (at : ℕ) → at < 4 → is_ascii_uppercase (get_or bytes at 0) ≡ true
four_places bytes p q r s zero lt = p
four_places bytes p q r s (suc zero) lt = q
four_places bytes p q r s (suc (suc zero)) lt = r
four_places bytes p q r s (suc (suc (suc zero))) lt = s
four_places bytes p q r s (suc (suc (suc (suc n)))) lt = absurd (omega arith)

-- bytes that the clamp leaves as they are
pub capitals_from : (bytes : List ℕ) → ((i : ℕ) → get_or bytes i 0 < 256)
    → number_of (nearest (get_or bytes 0 0)) (nearest (get_or bytes 1 0)) (nearest (get_or bytes 2 0)) (nearest (get_or bytes 3 0))
    ≡ number_of (get_or bytes 0 0) (get_or bytes 1 0) (get_or bytes 2 0) (get_or bytes 3 0)
    → (at : ℕ) → at < 4 → is_ascii_uppercase (get_or bytes at 0) ≡ true
capitals_from bytes fits same =
    let a = get_or bytes 0 0 in
    let b = get_or bytes 1 0 in
    let c = get_or bytes 2 0 in
    let d = get_or bytes 3 0 in
    let parts = same_parts (nearest a) (nearest b) (nearest c) (nearest d) a b c d
    (nearest_small a) (nearest_small b) (nearest_small c) (nearest_small d) (fits 0) (fits 1) (fits 2) (fits 3) same in
    four_places bytes (nearest_capital a parts.0) (nearest_capital b parts.1) (nearest_capital c parts.2) (nearest_capital d parts.3)
