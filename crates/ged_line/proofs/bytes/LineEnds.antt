-- The line ends of one run of bytes, by the mask of its lanes.
use Rattle.std.proofs.Common.{◌≡◌, ◌≢◌, ◌↔◌, ℕ, ◌+◌, ◌-◌, ◌%◌, ◌^◌, ◌<◌, ◌≤◌, Bool, true, false, ◌||◌, List, None, Some, cond, eqb, ltb, length, get_or, map, replicate, bit_or, w64, refl, sym, ap, subst, ◌∙◌, arith, inl, inr, true≢false}
use Rattle.std.proofs.Math.ListN.{get_or-eq_default}
use Rattle.std.proofs.lemmas.Bool.{cases_lt}
use Rattle.std.proofs.lemmas.List.{get_or-map, length-map}
use Rattle.std.proofs.lemmas.Nat.Bits.{bit_at-trailing_zeros, bit_at-zero}
use Rattle.std.proofs.lemmas.Simd.{bit_mask_l, get_or-chunk, length-chunk, map-map, mask_l-mod, zip2_of_maps, zip2_splat}
use Rattle.std.specs.Int.{bit_at, trailing_zeros}
use Rattle.std.specs.Simd.Lanes.{chunk, mask_l, top, zip2}
use Rattle.memchr.specs.Find.{IsFirst, Passes, is_byte2}
use Rattle.ged_line.specs.inner.ByteTests.{is_special}

-- what `simd_eq` gives at one lane
abbrev equal : ℕ → ℕ → ℕ
equal x y = cond (eqb x y) 255 0

-- `to_bitmask` of where a vector of n bytes has a or b
abbrev mask_of : ℕ → ℕ → ℕ → List ℕ → ℕ
mask_of a b n run = mask_l (map (top 7) (zip2 bit_or (zip2 equal run (replicate n a)) (zip2 equal run (replicate n b)))) % 2 ^ 64

top_of_either : (p q : Bool) → top 7 (bit_or (cond p 255 0) (cond q 255 0)) ≡ (p || q)
top_of_either true true = refl
top_of_either true false = refl
top_of_either false true = refl
top_of_either false false = refl

set_where : (p : Bool) → (cond {A = ℕ} p 1 0 ≡ 1) ↔ (p ≡ true)
set_where true = (λ h. refl, λ h. refl)
set_where false = (λ h. absurd (omega arith), λ h. absurd (true≢false (sym h)))

bit_of_mask : (a b n : ℕ) (run : List ℕ) → length run ≡ n → n ≤ 64 → (k : ℕ)
    → bit_at (mask_of a b n run) k ≡ cond (get_or (map (λ x. top 7 (bit_or (equal x a) (equal x b))) run) k false) 1 0
bit_of_mask a b n run long few k =
    let lane = λ (x : ℕ). bit_or (equal x a) (equal x b) in
    let lanes = zip2_of_maps bit_or _ _ run (zip2_splat equal run n a long) (zip2_splat equal run n b long) in
    let small = mask_l-mod (map (λ x. top 7 (lane x)) run) 64 (omega (arith, length-map run (λ x. top 7 (lane x)), long)) in
    ap (λ m. bit_at m k) (ap (λ l. mask_l l % 2 ^ 64) (ap (map (top 7)) lanes ∙ map-map (top 7) lane run) ∙ small)
    ∙ bit_mask_l (map (λ x. top 7 (lane x)) run) k

-- each bit of the mask of n bytes from i on
pub marks_of_run : (a b i n : ℕ) (bytes : List ℕ) → i + n ≤ length bytes → n ≤ 64 → (k : ℕ)
    → (bit_at (mask_of a b n (chunk i n bytes)) k ≡ 1) ↔ ((k < n) × Passes (is_byte2 a b) bytes (i + k))
marks_of_run a b i n bytes room few k =
    let run = chunk i n bytes in
    let long = length-chunk i n bytes room in
    let is_end = λ (x : ℕ). top 7 (bit_or (equal x a) (equal x b)) in
    elim (cases_lt k n) [
      | inl inside ↦
          let passes : get_or (map is_end run) k false ≡ is_byte2 a b (get_or bytes (i + k) 0) =
          get_or-map is_end run k 0 false (omega (arith, long)) ∙ top_of_either _ _ ∙ ap (is_byte2 a b) (get_or-chunk i n bytes k 0 inside) in
          let bit = bit_of_mask a b n run long few k ∙ ap (λ p. cond p 1 0) passes in
          (λ h. (inside, (set_where _).0 (sym bit ∙ h)), λ h. bit ∙ (set_where _).1 h.1)
      | inr outside ↦
          let past : get_or (map is_end run) k false ≡ false = get_or-eq_default (map is_end run) false (omega (arith, length-map run is_end, long)) in
          let bit = bit_of_mask a b n run long few k ∙ ap (λ p. cond p 1 0) past in
          (λ h. absurd (omega (arith, bit)), λ h. absurd (omega (arith, h.0)))
    ]

-- the same of special bytes: what the comparisons give at one lane
abbrev below : ℕ → ℕ → ℕ
below x y = cond (ltb x y) 255 0

abbrev special_lane : ℕ → ℕ
special_lane x = bit_or (below x 32) (bit_or (equal x 127) (equal x 239))

abbrev special_mask : ℕ → List ℕ → ℕ
special_mask n run = mask_l (map (top 7) (zip2 bit_or
    (zip2 below run (replicate n 32))
    (zip2 bit_or (zip2 equal run (replicate n 127)) (zip2 equal run (replicate n 239))))) % 2 ^ 64

top_of_special : (p r s : Bool) → top 7 (bit_or (cond p 255 0) (bit_or (cond r 255 0) (cond s 255 0))) ≡ ((p || r) || s)
top_of_special true true true = refl
top_of_special true true false = refl
top_of_special true false true = refl
top_of_special true false false = refl
top_of_special false true true = refl
top_of_special false true false = refl
top_of_special false false true = refl
top_of_special false false false = refl

special_at : (x : ℕ) → top 7 (special_lane x) ≡ is_special x
special_at x = top_of_special (ltb x 32) (eqb x 127) (eqb x 239)

bit_of_special : (n : ℕ) (run : List ℕ) → length run ≡ n → n ≤ 64 → (k : ℕ)
    → bit_at (special_mask n run) k ≡ cond (get_or (map (λ x. top 7 (special_lane x)) run) k false) 1 0
bit_of_special n run long few k =
    let other = zip2_of_maps bit_or _ _ run (zip2_splat equal run n 127 long) (zip2_splat equal run n 239 long) in
    let lanes = zip2_of_maps bit_or _ _ run (zip2_splat below run n 32 long) other in
    let small = mask_l-mod (map (λ x. top 7 (special_lane x)) run) 64 (omega (arith, length-map run (λ x. top 7 (special_lane x)), long)) in
    ap (λ m. bit_at m k) (ap (λ l. mask_l l % 2 ^ 64) (ap (map (top 7)) lanes ∙ map-map (top 7) special_lane run) ∙ small)
    ∙ bit_mask_l (map (λ x. top 7 (special_lane x)) run) k

pub special_marks_of_run : (i n : ℕ) (bytes : List ℕ) → i + n ≤ length bytes → n ≤ 64 → (k : ℕ)
    → (bit_at (special_mask n (chunk i n bytes)) k ≡ 1) ↔ ((k < n) × Passes is_special bytes (i + k))
special_marks_of_run i n bytes room few k =
    let run = chunk i n bytes in
    let long = length-chunk i n bytes room in
    let marked = λ (x : ℕ). top 7 (special_lane x) in
    elim (cases_lt k n) [
      | inl inside ↦
          let passes : get_or (map marked run) k false ≡ is_special (get_or bytes (i + k) 0) =
          get_or-map marked run k 0 false (omega (arith, long)) ∙ special_at (get_or run k 0) ∙ ap is_special (get_or-chunk i n bytes k 0 inside) in
          let bit = bit_of_special n run long few k ∙ ap (λ p. cond p 1 0) passes in
          (λ h. (inside, (set_where _).0 (sym bit ∙ h)), λ h. bit ∙ (set_where _).1 h.1)
      | inr outside ↦
          let past : get_or (map marked run) k false ≡ false = get_or-eq_default (map marked run) false (omega (arith, length-map run marked, long)) in
          let bit = bit_of_special n run long few k ∙ ap (λ p. cond p 1 0) past in
          (λ h. absurd (omega (arith, bit)), λ h. absurd (omega (arith, h.0)))
    ]

module _ (P : ℕ → Type 0) (i n marks : ℕ) (each : (k : ℕ) → (bit_at marks k ≡ 1) ↔ ((k < n) × P (i + k))) where
  at_place : (k : ℕ) → i ≤ k → k < i + n → P k → bit_at marks (k - i) ≡ 1
  at_place k from to holds = (each (k - i)).1 (omega arith, subst P (omega arith) holds)

  pub none_marked : marks ≡ 0 → IsFirst P i (i + n) None
  none_marked none k from to holds = omega (arith, at_place k from to holds, ap (λ m. bit_at m (k - i)) none, bit_at-zero (k - i))

  pub first_marked : marks < 2 ^ 64 → marks ≢ 0 → IsFirst P i (i + n) (Some (i + trailing_zeros w64 marks))
  first_marked fits some =
      let lowest = bit_at-trailing_zeros w64 marks (omega (arith, some)) fits in
      let found = (each (trailing_zeros w64 marks)).0 lowest.1 in (
        record {
          low = omega arith;
          high = omega (arith, found.0);
          before = λ k from to holds. absurd (omega (arith, at_place k from (omega (arith, found.0)) holds, lowest.2 (k - i) (omega arith)));
        },
        found.1,
      )
