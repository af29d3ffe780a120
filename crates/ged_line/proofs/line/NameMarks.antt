-- The tag characters of one run of bytes, by the mask of its lanes.
use Rattle.std.proofs.Common.{◌≡◌, ◌≢◌, ◌↔◌, ℕ, ◌+◌, ◌%◌, ◌^◌, ◌<◌, ◌≤◌, Bool, true, false, ◌||◌, ◌&&◌, not, List, cond, eqb, ltb, bit_and, bit_or, w64, length, get_or, map, replicate, refl, sym, ap, ◌∙◌, arith, inl, inr}
use Rattle.std.proofs.Math.ListN.{get_or-eq_default}
use Rattle.std.proofs.lemmas.Bool.{cases_lt}
use Rattle.std.proofs.lemmas.Bool.Decides.{nat_tests}
use Rattle.std.proofs.lemmas.List.{get_or-map, length-map}
use Rattle.std.proofs.lemmas.Simd.{bit_mask_l, get_or-chunk, length-chunk, map-map, mask_l-mod, zip2_of_maps, zip2_splat, zip2_splat_left}
use Rattle.std.proofs.lemmas.Nat.Bits.{bit_at-trailing_zeros}
use Rattle.std.specs.Int.{bit_at, trailing_zeros}
use Rattle.std.specs.Simd.Lanes.{chunk, mask_l, top, zip2}
use Rattle.ged_line.specs.Characters.{is_tag_character}
use Rattle.ged_line.proofs.line.NameTests.{bool_cases}
use Rattle.ged_line.proofs.line.Capitals.{top_of}

-- what the comparisons give at one lane
abbrev below : ℕ → ℕ → ℕ
below x y = cond (ltb x y) 255 0

abbrev unequal : ℕ → ℕ → ℕ
unequal x y = cond (not (eqb x y)) 255 0

abbrev other_lane : ℕ → ℕ
other_lane x = bit_and (bit_and (bit_or (below x 65) (below 90 x)) (bit_or (below x 48) (below 57 x))) (unequal x 95)

abbrev other_mask : ℕ → List ℕ → ℕ
other_mask n run = mask_l (map (top 7) (zip2 bit_and
    (zip2 bit_and
    (zip2 bit_or (zip2 below run (replicate n 65)) (zip2 below (replicate n 90) run))
    (zip2 bit_or (zip2 below run (replicate n 48)) (zip2 below (replicate n 57) run)))
    (zip2 unequal run (replicate n 95)))) % 2 ^ 64

or_lane : (p q : Bool) → bit_or (cond p 255 0) (cond q 255 0) ≡ cond (p || q) 255 0
or_lane true true = refl
or_lane true false = refl
or_lane false true = refl
or_lane false false = refl

and_lane : (p q : Bool) → bit_and (cond p 255 0) (cond q 255 0) ≡ cond (p && q) 255 0
and_lane true true = refl
and_lane true false = refl
and_lane false true = refl
and_lane false false = refl

is_other : (x : ℕ) → (((ltb x 65 || ltb 90 x) && (ltb x 48 || ltb 57 x)) && not (eqb x 95)) ≡ not (is_tag_character x)
is_other x = grind (arith, nat_tests)

other_at : (x : ℕ) → top 7 (other_lane x) ≡ not (is_tag_character x)
other_at x =
    let letter = or_lane (ltb x 65) (ltb 90 x) in
    let digit = or_lane (ltb x 48) (ltb 57 x) in
    let both = and_lane (ltb x 65 || ltb 90 x) (ltb x 48 || ltb 57 x) in
    let all = and_lane ((ltb x 65 || ltb 90 x) && (ltb x 48 || ltb 57 x)) (not (eqb x 95)) in
    rw (letter, digit, both, all) (top_of _ ∙ is_other x)

marked_where : (p : Bool) → (cond {A = ℕ} (not p) 1 0 ≡ 1) ↔ (p ≡ false)
marked_where true = (λ h. absurd (omega arith), λ h. cc)
marked_where false = (λ h. refl, λ h. refl)

bit_of_other : (n : ℕ) (run : List ℕ) → length run ≡ n → n ≤ 64 → (k : ℕ)
    → bit_at (other_mask n run) k ≡ cond (get_or (map (λ x. top 7 (other_lane x)) run) k false) 1 0
bit_of_other n run long few k =
    let letter = zip2_of_maps bit_or _ _ run (zip2_splat below run n 65 long) (zip2_splat_left below 90 n run long) in
    let digit = zip2_of_maps bit_or _ _ run (zip2_splat below run n 48 long) (zip2_splat_left below 57 n run long) in
    let lanes = zip2_of_maps bit_and _ _ run (zip2_of_maps bit_and _ _ run letter digit) (zip2_splat unequal run n 95 long) in
    let small = mask_l-mod (map (λ x. top 7 (other_lane x)) run) 64 (omega (arith, length-map run (λ x. top 7 (other_lane x)), long)) in
    ap (λ m. bit_at m k) (ap (λ l. mask_l l % 2 ^ 64) (ap (map (top 7)) lanes ∙ map-map (top 7) other_lane run) ∙ small)
    ∙ bit_mask_l (map (λ x. top 7 (other_lane x)) run) k

pub others_of_run : (n : ℕ) (bytes : List ℕ) → 0 + n ≤ length bytes → n ≤ 64 → (k : ℕ)
    → (bit_at (other_mask n (chunk 0 n bytes)) k ≡ 1) ↔ ((k < n) × (is_tag_character (get_or bytes k 0) ≡ false))
others_of_run n bytes room few k =
    let run = chunk 0 n bytes in
    let long = length-chunk 0 n bytes room in
    let marked = λ (x : ℕ). top 7 (other_lane x) in
    elim (cases_lt k n) [
      | inl inside ↦
          let from_zero : 0 + k ≡ k = omega arith in
          let passes : get_or (map marked run) k false ≡ not (is_tag_character (get_or bytes k 0)) =
          get_or-map marked run k 0 false (omega (arith, long)) ∙ other_at (get_or run k 0)
          ∙ ap (λ x. not (is_tag_character x)) (get_or-chunk 0 n bytes k 0 inside ∙ ap (λ i. get_or bytes i 0) from_zero) in
          let bit = bit_of_other n run long few k ∙ ap (λ p. cond p 1 0) passes in
          (λ h. (inside, (marked_where _).0 (sym bit ∙ h)), λ h. bit ∙ (marked_where _).1 h.1)
      | inr outside ↦
          let past : get_or (map marked run) k false ≡ false = get_or-eq_default (map marked run) false (omega (arith, length-map run marked, long)) in
          let bit = bit_of_other n run long few k ∙ ap (λ p. cond p 1 0) past in
          (λ h. absurd (omega (arith, bit)), λ h. absurd (omega (arith, h.0)))
    ]

-- the lowest mark is where the tag characters end
module _ (bytes : List ℕ) (n marks : ℕ) (each : (k : ℕ) → (bit_at marks k ≡ 1) ↔ ((k < n) × (is_tag_character (get_or bytes k 0) ≡ false)))
    (fits : marks < 2 ^ 64) (some : marks ≢ 0) where
  pub first_other : (trailing_zeros w64 marks < n) × (is_tag_character (get_or bytes (trailing_zeros w64 marks) 0) ≡ false)
  first_other =
      let lowest = bit_at-trailing_zeros w64 marks (omega (arith, some)) fits in
      (each (trailing_zeros w64 marks)).0 lowest.1

  pub before_other : (at : ℕ) → at < trailing_zeros w64 marks → is_tag_character (get_or bytes at 0) ≡ true
  before_other at low =
      let lowest = bit_at-trailing_zeros w64 marks (omega (arith, some)) fits in
      elim (bool_cases (is_tag_character (get_or bytes at 0))) [
        | inl e ↦ e
        | inr e ↦
            let marked : bit_at marks at ≡ 1 = (each at).1 (omega (arith, low, first_other.0), e) in
            absurd (omega (arith, marked, lowest.2 at low))
      ]
