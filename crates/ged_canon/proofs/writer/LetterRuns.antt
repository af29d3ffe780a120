-- Bytes without a G, told by runs that reach over all of them.
use Rattle.std.proofs.Common.{◌≡◌, ℕ, zero, suc, ◌+◌, ◌-◌, ◌*◌, ◌%◌, ◌^◌, ◌≤◌, Bool, true, false, List, [], ◌∷◌, ◌++◌, cond, eqb, eqb-true, length, map, take, drop, replicate, refl, sym, ap, ◌∙◌, not, nat_eq, arith}
use Rattle.std.specs.Prelude.{◌==◌, ◌||◌}
use Rattle.std.specs.List.{list_any}
use Rattle.std.proofs.lemmas.Bool.{or_parts, true≢false}
use Rattle.std.proofs.lemmas.List.{length-map, length-drop, take-append-drop, take_all, drop-drop}
use Rattle.std.proofs.lemmas.Simd.{length-zip2, length-chunk, mask_l-mod}
use Rattle.std.specs.Simd.Lanes.{chunk, mask_l, top, zip2}

-- what `simd_eq` gives at one lane
abbrev equal : ℕ → ℕ → ℕ
equal x y = cond (eqb x y) 255 0

abbrev lanes : List ℕ → List ℕ → List Bool
lanes xs ys = map (top 7) (zip2 equal xs ys)

abbrev has_g : List ℕ → Bool
has_g bytes = list_any (λ b. b == 71) bytes

unset : (p : Bool) (m : ℕ) → cond (top 7 (cond p 255 0)) 1 0 + 2 * m ≡ 0 → (p ≡ false) × (m ≡ 0)
unset true m h = absurd (omega (arith, h))
unset false m h = (refl, omega (arith, h))

-- where no lane is set, no byte is a G
none_set : (xs : List ℕ) → mask_l (lanes xs (replicate (length xs) 71)) ≡ 0 → has_g xs ≡ false
none_set [] h = refl
none_set (x ∷ xs) h =
    let parts = unset (eqb x 71) (mask_l (lanes xs (replicate (length xs) 71))) h in
    ap (λ b. b || has_g xs) parts.0 ∙ none_set xs parts.1

-- where no byte is a G, no lane is set
none_found : (xs : List ℕ) → has_g xs ≡ false → mask_l (lanes xs (replicate (length xs) 71)) ≡ 0
none_found [] h = refl
none_found (x ∷ xs) h =
    let parts = or_parts (x == 71) (has_g xs) h in
    let rest = none_found xs parts.1 in
    ap (λ b. cond (top 7 (cond b 255 0)) 1 0 + 2 * mask_l (lanes xs (replicate (length xs) 71))) parts.0 ∙ omega (arith, rest)

from_none : (mask : ℕ) (any : Bool) → (mask ≡ 0 → any ≡ false) → (any ≡ false → mask ≡ 0) → not (nat_eq mask 0) ≡ any
from_none mask any none found = go (nat_eq mask 0) refl
  where
    is_true : (a : Bool) → any ≡ a → nat_eq mask 0 ≡ false → true ≡ any
    is_true true is other = sym is
    is_true false is other = absurd (true≢false (sym (ap (λ m. nat_eq m 0) (found is)) ∙ other))

    go : (zero : Bool) → nat_eq mask 0 ≡ zero → not zero ≡ any
    go true is = sym (none (eqb-true mask 0 is))
    go false other = is_true any refl other

-- whether any lane is set in a run
pub run_has : (bytes : List ℕ) (at : ℕ) → at + 16 ≤ length bytes → not (nat_eq (mask_l (lanes (chunk at 16 bytes) (replicate 16 71)) % 2 ^ 64) 0) ≡ has_g (chunk at 16 bytes)
run_has bytes at room =
    let run = chunk at 16 bytes in
    let long = length-chunk at 16 bytes room in
    let count = length-zip2 equal run (replicate 16 71) long ∙ long in
    let small = mask_l-mod (lanes run (replicate 16 71)) 64 (omega (arith, length-map (zip2 equal run (replicate 16 71)) (top 7), count)) in
    let whole = ap (λ n. mask_l (lanes run (replicate n 71))) (sym long) in
    from_none (mask_l (lanes run (replicate 16 71)) % 2 ^ 64) (has_g run)
    (λ none. none_set run (sym whole ∙ sym small ∙ none))
    (λ none. small ∙ whole ∙ none_found run none)

both_lack : (front bytes : List ℕ) → has_g front ≡ false → has_g bytes ≡ false → has_g (front ++ bytes) ≡ false
both_lack [] bytes f h = h
both_lack (b ∷ bs) bytes f h =
    let parts = or_parts (b == 71) (has_g bs) f in
    ap (λ t. t || has_g (bs ++ bytes)) parts.0 ∙ both_lack bs bytes parts.1 h

behind_lacks : (n : ℕ) (bytes : List ℕ) → has_g bytes ≡ false → has_g (drop n bytes) ≡ false
behind_lacks zero bytes h = h
behind_lacks (suc n) [] h = h
behind_lacks (suc n) (b ∷ bs) h = behind_lacks n bs (or_parts (b == 71) (has_g bs) h).1

front_lacks : (n : ℕ) (bytes : List ℕ) → has_g bytes ≡ false → has_g (take n bytes) ≡ false
front_lacks zero bytes h = refl
front_lacks (suc n) [] h = h
front_lacks (suc n) (b ∷ bs) h =
    let parts = or_parts (b == 71) (has_g bs) h in
    ap (λ t. t || has_g (take n bs)) parts.0 ∙ front_lacks n bs parts.1

-- two runs, of which the second ends where the bytes do, and begins where the first ends or before that
ends_lack : (bytes : List ℕ) (last n : ℕ) → last ≤ n → length bytes ≡ last + n → has_g (chunk 0 n bytes) ≡ false → has_g (chunk last n bytes) ≡ false → has_g bytes ≡ false
ends_lack bytes last n within long front back =
    let rest : has_g (drop last bytes) ≡ false = ap has_g (sym (take_all n (drop last bytes) (omega (arith, length-drop last bytes, long)))) ∙ back in
    let more : has_g (drop (n - last) (drop last bytes)) ≡ false = behind_lacks (n - last) (drop last bytes) rest in
    let sum : n ≡ last + (n - last) = omega (arith, within) in
    let to : has_g (drop n bytes) ≡ false = ap (λ m. has_g (drop m bytes)) sum ∙ ap has_g (sym (drop-drop (n - last) last bytes)) ∙ more in
    ap has_g (sym (take-append-drop n bytes)) ∙ both_lack (take n bytes) (drop n bytes) front to

pub ends_have : (bytes : List ℕ) (last n : ℕ) → last ≤ n → length bytes ≡ last + n → has_g (chunk 0 n bytes) || has_g (chunk last n bytes) ≡ has_g bytes
ends_have bytes last n within long = go (has_g (chunk 0 n bytes)) (has_g (chunk last n bytes)) (has_g bytes)
    (λ none. front_lacks n bytes none) (λ none. front_lacks n (drop last bytes) (behind_lacks last bytes none)) (ends_lack bytes last n within long)
  where
    go : (first second whole : Bool) → (whole ≡ false → first ≡ false) → (whole ≡ false → second ≡ false) → (first ≡ false → second ≡ false → whole ≡ false) → first || second ≡ whole
    go true second true f s w = refl
    go true second false f s w = f refl
    go false true true f s w = refl
    go false true false f s w = s refl
    go false false whole f s w = sym (w refl refl)
