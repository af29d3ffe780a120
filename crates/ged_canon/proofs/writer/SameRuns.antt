-- Texts that are the same in runs that reach over all of them.
use Rattle.std.proofs.Common.{◌≡◌, ℕ, zero, suc, ◌+◌, ◌*◌, ◌%◌, ◌^◌, ◌≤◌, Bool, true, false, List, [], ◌∷◌, ◌++◌, cond, eqb, eqb-true, length, map, take, drop, refl, sym, ap, ◌∙◌, arith}
use Rattle.std.proofs.lemmas.List.{length-map, length-drop, take-append-drop, take-take, take_all}
use Rattle.std.proofs.Math.Seq.{take-add}
use Rattle.std.proofs.lemmas.Simd.{length-zip2, length-chunk, mask_l-mod}
use Rattle.std.specs.Simd.Lanes.{chunk, mask_l, top, zip2}
use Rattle.ged_line.specs.Bytes.{Bytes}

-- what `simd_eq` gives at one lane
abbrev equal : ℕ → ℕ → ℕ
equal x y = cond (eqb x y) 255 0

abbrev lanes : Bytes → Bytes → List Bool
lanes xs ys = map (top 7) (zip2 equal xs ys)

-- the mask of so many lanes that are all set
all_set : ℕ → ℕ
all_set zero = 0
all_set (suc n) = 1 + 2 * all_set n

both : (p : Bool) (m n : ℕ) → cond (top 7 (cond p 255 0)) 1 0 + 2 * m ≡ 1 + 2 * n → (p ≡ true) × (m ≡ n)
both true m n h = (refl, omega (arith, h))
both false m n h = absurd (omega (arith, h))

set_same : (xs ys : Bytes) → length xs ≡ length ys → mask_l (lanes xs ys) ≡ all_set (length xs) → xs ≡ ys
unfolding all_set
set_same [] [] e h = refl
set_same [] (y ∷ ys) e h = absurd (omega (arith, e))
set_same (x ∷ xs) [] e h = absurd (omega (arith, e))
set_same (x ∷ xs) (y ∷ ys) e h =
    let parts = both (eqb x y) (mask_l (lanes xs ys)) (all_set (length xs)) h in
    λ i. eqb-true x y parts.0 i ∷ set_same xs ys (omega (arith, e)) parts.1 i

-- a run in which all lanes are set
pub same_run : (xs ys : Bytes) (at : ℕ) → at + 16 ≤ length xs → at + 16 ≤ length ys → mask_l (lanes (chunk at 16 xs) (chunk at 16 ys)) % 2 ^ 64 ≡ 65535 → chunk at 16 xs ≡ chunk at 16 ys
unfolding all_set
same_run xs ys at room other_room h =
    let long = length-chunk at 16 xs room in
    let other_long = length-chunk at 16 ys other_room in
    let count = length-zip2 equal (chunk at 16 xs) (chunk at 16 ys) (long ∙ sym other_long) ∙ long in
    let small = mask_l-mod (lanes (chunk at 16 xs) (chunk at 16 ys)) 64 (omega (arith, length-map (zip2 equal (chunk at 16 xs) (chunk at 16 ys)) (top 7), count)) in
    set_same (chunk at 16 xs) (chunk at 16 ys) (long ∙ sym other_long) (sym small ∙ h ∙ ap all_set (sym long))

-- texts that are the same up to a place, and in a run from there on
pub same_more : (xs ys : Bytes) (at n : ℕ) → take at xs ≡ take at ys → chunk at n xs ≡ chunk at n ys → take (at + n) xs ≡ take (at + n) ys
same_more xs ys at n front run = take-add at n xs ∙ (λ i. front i ++ run i) ∙ sym (take-add at n ys)

-- texts that are the same up to a place are so up to any before it
same_less : (xs ys : Bytes) (m n : ℕ) → m ≤ n → take n xs ≡ take n ys → take m xs ≡ take m ys
same_less xs ys m n within front = sym (take-take m n xs within) ∙ ap (take m) front ∙ take-take m n ys within

-- texts that are the same up to one place, and from a place before that on
same_parts : (xs ys : Bytes) (m n : ℕ) → m ≤ n → take n xs ≡ take n ys → drop m xs ≡ drop m ys → xs ≡ ys
same_parts xs ys m n within front back =
    let few = same_less xs ys m n within front in
    sym (take-append-drop m xs) ∙ (λ i. few i ++ back i) ∙ take-append-drop m ys

-- texts of one length that are the same up to one place, and in a run from a place before that to their ends
pub same_ends : (xs ys : Bytes) (at last n : ℕ) → last ≤ at → length xs ≡ last + n → length ys ≡ last + n → take at xs ≡ take at ys → chunk last n xs ≡ chunk last n ys → xs ≡ ys
same_ends xs ys at last n within long other_long front run =
    let whole : drop last xs ≡ drop last ys =
    sym (take_all n (drop last xs) (omega (arith, length-drop last xs, long))) ∙ run ∙ take_all n (drop last ys) (omega (arith, length-drop last ys, other_long)) in
    same_parts xs ys last at within front whole

-- texts of one length that are the same in four runs, of which each begins where the one before it ends, or before that
pub same_few : (xs ys : Bytes) (n second third last : ℕ) → second ≤ n → third ≤ second + n → last ≤ third + n → length xs ≡ last + n → length ys ≡ last + n
    → chunk 0 n xs ≡ chunk 0 n ys → chunk second n xs ≡ chunk second n ys → chunk third n xs ≡ chunk third n ys → chunk last n xs ≡ chunk last n ys → xs ≡ ys
same_few xs ys n second third last two three four long other_long run second_run third_run last_run =
    let to_second = same_more xs ys second n (same_less xs ys second n two run) second_run in
    let to_third = same_more xs ys third n (same_less xs ys third (second + n) three to_second) third_run in
    same_ends xs ys (third + n) last n four long other_long to_third last_run
