-- Two forms that are compared piece by piece.
use Rattle.std.proofs.Common.{◌≡◌, ◌↔◌, ◌++◌, ◌∷◌, [], ◌≤◌, ℕ, Bool, true, false, not, min, refl, length, take, drop, sym, ap, ◌∙◌, append_assoc, length-append, arith}
use Rattle.std.proofs.lemmas.Bool.{false≢true}
use Rattle.std.proofs.lemmas.List.{append_cancel_left, take-append-drop, take-append-le}
use Rattle.ged_line.specs.Bytes.{Bytes}

pub not_other : (b : Bool) → not b ≡ false → b ≡ true
not_other true e = refl
not_other false e = absurd (false≢true (sym e))

-- bytes that begin alike are equal where what is left of them is
pub left_equal : (first second front left other : Bytes) → first ≡ front ++ left → second ≡ front ++ other → first ≡ second → left ≡ other
left_equal first second front left other was also same = append_cancel_left front left other (sym was ∙ same ∙ also)

pub all_equal : (first second front left other : Bytes) → first ≡ front ++ left → second ≡ front ++ other → left ≡ other → first ≡ second
all_equal first second front left other was also same = was ∙ ap (λ xs. front ++ xs) same ∙ sym also

none_left : (bytes : Bytes) → length bytes ≡ 0 → bytes ≡ []
none_left [] e = refl
none_left (b ∷ bs) e = absurd (omega (arith, e))

-- where one of two pieces is empty, which it is only where nothing is left, what is left is equal exactly where both are
ends_alike : (left more right others : Bytes) → (left ≡ [] → more ≡ []) → (right ≡ [] → others ≡ []) → min (length left) (length right) ≡ 0
    → left ++ more ≡ right ++ others → length left ≡ length right
ends_alike [] more right others last other_last least equal = omega (arith, ap length (last refl), ap length equal, length-append right others)
ends_alike (b ∷ bs) more [] others last other_last least equal = absurd (omega (arith, ap length (other_last refl), ap length equal, length-append (b ∷ bs) more))
ends_alike (b ∷ bs) more (c ∷ cs) others last other_last least equal = absurd (omega (arith, least))

pub equal_ends : (left more right others : Bytes) → (left ≡ [] → more ≡ []) → (right ≡ [] → others ≡ []) → min (length left) (length right) ≡ 0
    → (length left ≡ length right) ↔ (left ++ more ≡ right ++ others)
equal_ends left more right others last other_last least = (
  (λ same.
      let empty = none_left left (omega (arith, least, same)) in
      let also = none_left right (omega (arith, least, same)) in
      (λ i. empty i ++ last empty i) ∙ sym (λ i. also i ++ other_last also i)),
  (λ equal. ends_alike left more right others last other_last least equal),
)

-- equal bytes begin alike
pub fronts_equal : (left more right others : Bytes) (n : ℕ) → n ≤ length left → n ≤ length right → left ++ more ≡ right ++ others → take n left ≡ take n right
fronts_equal left more right others n within also equal = sym (take-append-le n left more within) ∙ ap (take n) equal ∙ take-append-le n right others also

-- some more bytes were compared
pub compared_more : (whole front left more next rest : Bytes) (n : ℕ) → whole ≡ front ++ (left ++ more) → next ≡ take n left → rest ≡ drop n left
    → whole ≡ (front ++ next) ++ (rest ++ more)
compared_more whole front left more next rest n was is others =
    was
    ∙ ap (λ xs. front ++ (xs ++ more)) (sym (take-append-drop n left))
    ∙ sym (λ i. front ++ ((is i ++ others i) ++ more))
    ∙ ap (λ xs. front ++ xs) (append_assoc next rest more)
    ∙ sym (append_assoc front next (rest ++ more))
