-- How bytes are cut into pieces.
use Rattle.std.proofs.Common.{◌≡◌, ◌≢◌, ℕ, suc, ◌+◌, ◌<◌, ◌≤◌, true, false, List, [], ◌∷◌, ◌++◌, ◌⊎◌, inl, inr, length, get_or, take, drop, refl, sym, ◌∙◌, ap, subst, arith, ◌==◌, ◌||◌, ◌-◌, get_or-take, length-append}
use Rattle.std.proofs.lemmas.Bool.Decides.{nat_tests}
use Rattle.std.proofs.lemmas.List.{append-nil, take-append-drop, length-take-le, length-drop, get_or-drop}
use Rattle.std.proofs.Math.Seq.{take-length}
use Rattle.std.proofs.lemmas.List.Elements.{recursion_from_All, All-from_get_or}
use native.Mathlib.Decide.{dec_lt}
use Rattle.ged_line.specs.Pieces.{IsEnd, HasNoEnd, IsFirstPiece, AreCutInto, with_front, pieces_of}

not_same : (b c : ℕ) → b ≢ c → (b == c) ≡ false
not_same b c h = grind (arith, nat_tests)

pub pieces_front : (b : ℕ) (xs : List ℕ) → b ≢ 13 → b ≢ 10 → pieces_of (b ∷ xs) ≡ with_front b (pieces_of xs)
pieces_front b [] f g = rw (not_same b 13 f, not_same b 10 g) refl
pieces_front b (c ∷ xs) f g = rw (not_same b 13 f, not_same b 10 g) refl

pub pieces_whole : (bs : List ℕ) → HasNoEnd bs → bs ≢ [] → pieces_of bs ≡ bs ∷ []
pieces_whole [] f n = absurd (n refl)
pieces_whole (b ∷ []) f n = pieces_front b [] f.0.0 f.0.1
pieces_whole (b ∷ c ∷ bs) f n = pieces_front b (c ∷ bs) f.0.0 f.0.1 ∙ ap (with_front b) (pieces_whole (c ∷ bs) f.1 (λ z. cc))

pub after_lf : (rest : List ℕ) → pieces_of (10 ∷ rest) ≡ [] ∷ pieces_of rest
after_lf [] = refl
after_lf (c ∷ cs) = refl

pub after_cr : (rest : List ℕ) → ((more : List ℕ) → rest ≢ 10 ∷ more) → pieces_of (13 ∷ rest) ≡ [] ∷ pieces_of rest
after_cr [] f = refl
after_cr (c ∷ cs) f = rw (not_same c 10 (λ e. f cs (ap (λ d. d ∷ cs) e))) refl

pieces_end : (end rest : List ℕ) → IsEnd end rest → pieces_of (end ++ rest) ≡ [] ∷ pieces_of rest
pieces_end end rest (inl e) = ap (λ x. pieces_of (x ++ rest)) e
pieces_end end rest (inr (inl e)) = ap (λ x. pieces_of (x ++ rest)) e ∙ after_lf rest
pieces_end end rest (inr (inr (e, f))) = ap (λ x. pieces_of (x ++ rest)) e ∙ after_cr rest f

-- the first piece, up to an end
pub pieces_cut : (piece end rest : List ℕ) → HasNoEnd piece → IsEnd end rest → pieces_of (piece ++ (end ++ rest)) ≡ piece ∷ pieces_of rest
pieces_cut [] end rest f e = pieces_end end rest e
pieces_cut (b ∷ bs) end rest f e = pieces_front b (bs ++ (end ++ rest)) f.0.0 f.0.1 ∙ ap (with_front b) (pieces_cut bs end rest f.1 e)

-- the same in one word
pub first_of_pieces : (bytes piece rest : List ℕ) → IsFirstPiece bytes piece rest → pieces_of bytes ≡ piece ∷ pieces_of rest
first_of_pieces bytes piece rest (f, inl (end, e, s)) = ap pieces_of s ∙ pieces_cut piece end rest f e
first_of_pieces bytes piece rest (f, inr (e, none, n)) =
    ap pieces_of e ∙ pieces_whole piece f n ∙ ap (λ x. piece ∷ pieces_of x) (sym none)

-- what stands behind a first piece, and the rest
pub parts_of_first : (bytes piece rest : List ℕ) → IsFirstPiece bytes piece rest → (end : List ℕ) × (bytes ≡ piece ++ (end ++ rest))
parts_of_first bytes piece rest (f, inl (end, e, s)) = (end, s)
parts_of_first bytes piece rest (f, inr (e, none, n)) = ([], e ∙ sym (ap (λ x. piece ++ x) none ∙ append-nil piece))

-- the pieces are one list
pub pieces_only : (pieces : List (List ℕ)) (bytes : List ℕ) → AreCutInto bytes pieces → pieces ≡ pieces_of bytes
pieces_only [] bytes h = sym (ap pieces_of h)
pieces_only (piece ∷ pieces) bytes (f, inl (none, e, n)) = ap (λ ps. piece ∷ ps) none ∙ sym (ap pieces_of e ∙ pieces_whole piece f n)
pieces_only (piece ∷ pieces) bytes (f, inr (end, rest, e, s, h)) =
    ap (λ ps. piece ∷ ps) (pieces_only pieces rest h) ∙ sym (ap pieces_of s ∙ pieces_cut piece end rest f e)

cut_front : (b : ℕ) (bytes : List ℕ) (pieces : List (List ℕ)) → b ≢ 13 → b ≢ 10 → AreCutInto bytes pieces → AreCutInto (b ∷ bytes) (with_front b pieces)
cut_front b bytes [] f g h = (((f, g), tt), inl (refl, ap (λ x. b ∷ x) h, λ z. cc))
cut_front b bytes (piece ∷ pieces) f g (n, inl (none, e, m)) = (((f, g), n), inl (none, ap (λ x. b ∷ x) e, λ z. cc))
cut_front b bytes (piece ∷ pieces) f g (n, inr (end, rest, e, s, h)) = (((f, g), n), inr (end, rest, e, ap (λ x. b ∷ x) s, h))

pub same_or_not : (a b : ℕ) → (a ≡ b) ⊎ (a ≢ b)
same_or_not a b = elim (dec_lt a b) [
  | yes l ↦ inr (omega arith)
  | no f ↦ elim (dec_lt b a) [ yes l ↦ inr (omega arith) | no g ↦ inl (omega arith) ]
]

cut_step : (b c : ℕ) (bs : List ℕ) → AreCutInto bs (pieces_of bs) → AreCutInto (c ∷ bs) (pieces_of (c ∷ bs)) → AreCutInto (b ∷ c ∷ bs) (pieces_of (b ∷ c ∷ bs))
cut_step b c bs after next = elim (same_or_not b 10) [
  | inl lf ↦ rw lf (tt, inr (10 ∷ [], c ∷ bs, inr (inl refl), refl, next))
  | inr f ↦ elim (same_or_not b 13) [
    | inl cr ↦ elim (same_or_not c 10) [
      | inl lf ↦ rw (cr, lf) (tt, inr (13 ∷ 10 ∷ [], bs, inl refl, refl, after))
      | inr g ↦ rw (cr, not_same c 10 g) (tt, inr (13 ∷ [], c ∷ bs, inr (inr (refl, λ more e. g (let z : c ∷ bs ≡ 10 ∷ more = e in cc))), refl, next))
    ]
    | inr h ↦ subst (AreCutInto (b ∷ c ∷ bs)) (sym (pieces_front b (c ∷ bs) h f)) (cut_front b (c ∷ bs) (pieces_of (c ∷ bs)) h f next)
  ]
]

cut_one : (b : ℕ) → AreCutInto (b ∷ []) (pieces_of (b ∷ []))
cut_one b = elim (same_or_not b 10) [
  | inl lf ↦ rw lf (tt, inr (10 ∷ [], [], inr (inl refl), refl, refl))
  | inr f ↦ elim (same_or_not b 13) [
    | inl cr ↦ rw cr (tt, inr (13 ∷ [], [], inr (inr (refl, λ more e. cc)), refl, refl))
    | inr h ↦ subst (AreCutInto (b ∷ [])) (sym (pieces_front b [] h f)) (cut_front b [] [] h f refl)
  ]
]

-- bytes are cut into their pieces
pub are_cut : (bytes : List ℕ) → AreCutInto bytes (pieces_of bytes)
are_cut [] = refl
are_cut (b ∷ []) = cut_one b
are_cut (b ∷ c ∷ bs) = cut_step b c bs (are_cut bs) (are_cut (c ∷ bs))

first_of_list : (bs : List ℕ) → 0 < length bs → bs ≡ get_or bs 0 0 ∷ drop 1 bs
first_of_list [] h = absurd (omega arith)
first_of_list (b ∷ bs) h = refl

is_end_one : (b : ℕ) → b ≡ 13 → (b == 13 || b == 10) ≡ true
is_end_one b e = rw e refl

is_end_two : (b : ℕ) → b ≡ 10 → (b == 13 || b == 10) ≡ true
is_end_two b e = rw e refl

-- the bytes up to a first line end
pub HasNoEnd-from_search : (bs : List ℕ) (n : ℕ) → n ≤ length bs → ((k : ℕ) → 0 ≤ k → k < n → ¬ ((get_or bs k 0 == 13 || get_or bs k 0 == 10) ≡ true)) → HasNoEnd (take n bs)
HasNoEnd-from_search bs n l h = recursion_from_All (λ b. (b ≢ 13) × (b ≢ 10)) (take n bs)
    (All-from_get_or (λ b. (b ≢ 13) × (b ≢ 10)) (take n bs) 0 (λ i s.
    let m : length (take n bs) ≡ n = length-take-le n bs l in
    let low : i < n = omega arith in
    let at : get_or (take n bs) i 0 ≡ get_or bs i 0 = get_or-take n bs i 0 low in
    (λ e. h i (omega arith) low (is_end_one (get_or bs i 0) (sym at ∙ e)), λ e. h i (omega arith) low (is_end_two (get_or bs i 0) (sym at ∙ e)))))

abbrev pub EndsWithRest : List ℕ → List ℕ → Type 0
EndsWithRest bytes rest = (end : List ℕ) × IsEnd end rest × (bytes ≡ end ++ rest)

pub rest_of : (bs : List ℕ) (n : ℕ) → n ≤ length bs → take (length bs - n) (drop n bs) ≡ drop n bs
rest_of bs n h =
    let same : length (drop n bs) ≡ length bs - n = length-drop n bs in
    ap (λ k. take k (drop n bs)) (sym same) ∙ take-length (drop n bs)

pub both_end : (bs : List ℕ) → 1 < length bs → get_or bs 0 0 ≡ 13 → get_or bs 1 0 ≡ 10 → EndsWithRest bs (take (length bs - 2) (drop 2 bs))
both_end [] l e f = absurd (omega arith)
both_end (b ∷ []) l e f = absurd (omega arith)
both_end (b ∷ c ∷ bs) l e f =
    rw (rest_of (b ∷ c ∷ bs) 2 (omega arith)) (13 ∷ 10 ∷ [], inl refl, ap (λ x. x ∷ c ∷ bs) e ∙ ap (λ y. 13 ∷ y ∷ bs) f)

-- a first byte that ends a line, and no CR LF
pub one_end : (bs : List ℕ) → 0 < length bs → ((get_or bs 0 0 ≡ 13) ⊎ (get_or bs 0 0 ≡ 10)) → (get_or bs 0 0 ≡ 13 → 1 < length bs → get_or bs 1 0 ≢ 10)
    → EndsWithRest bs (take (length bs - 1) (drop 1 bs))
one_end [] l k n = absurd (omega arith)
one_end (b ∷ bs) l (inr e) n = rw (rest_of (b ∷ bs) 1 (omega arith)) (10 ∷ [], inr (inl refl), ap (λ x. x ∷ bs) e)
one_end (b ∷ bs) l (inl e) n = rw (rest_of (b ∷ bs) 1 (omega arith)) (
  13 ∷ [],
  inr (inr (
    refl,
    λ more f.
        let long : length bs ≡ suc (length more) = ap length f in
        let second : get_or bs 0 0 ≡ 10 = ap (λ xs. get_or xs 0 0) f in
        n e (omega arith) second,
  )),
  ap (λ x. x ∷ bs) e,
)

-- what one call of the iterator does
pub first_piece : (bs : List ℕ) (n : ℕ) (after : List ℕ) → n ≤ length bs → ((k : ℕ) → 0 ≤ k → k < n → ¬ ((get_or bs k 0 == 13 || get_or bs k 0 == 10) ≡ true))
    → EndsWithRest (drop n bs) after → pieces_of bs ≡ take n bs ∷ pieces_of after
first_piece bs n after l h (end, e, s) =
    ap pieces_of (sym (take-append-drop n bs) ∙ ap (λ x. take n bs ++ x) s) ∙ pieces_cut (take n bs) end after (HasNoEnd-from_search bs n l h) e

pub last_piece : (bs : List ℕ) → false ≡ (length bs == 0) → ((k : ℕ) → 0 ≤ k → k < length bs → ¬ ((get_or bs k 0 == 13 || get_or bs k 0 == 10) ≡ true)) → pieces_of bs ≡ bs ∷ []
last_piece [] e h = cc
last_piece (b ∷ bs) e h = pieces_whole (b ∷ bs) (subst HasNoEnd (take-length (b ∷ bs)) (HasNoEnd-from_search (b ∷ bs) (length (b ∷ bs)) (omega arith) h)) (λ z. cc)

pub is_end_first : (b : ℕ) → (b == 13 || b == 10) ≡ true → (b ≡ 13) ⊎ (b ≡ 10)
is_end_first b h = elim (same_or_not b 13) [ inl e ↦ inl e | inr f ↦ inr (grind (arith, nat_tests)) ]

pub at_end : (bs : List ℕ) (n : ℕ) → n < length bs → (get_or bs n 0 == 13 || get_or bs n 0 == 10) ≡ true
    → (0 < length (drop n bs)) × ((get_or (drop n bs) 0 0 ≡ 13) ⊎ (get_or (drop n bs) 0 0 ≡ 10))
at_end bs n l h =
    let same : get_or (drop n bs) 0 0 ≡ get_or bs (n + 0) 0 = get_or-drop n bs 0 0 in
    let zero' : n + 0 ≡ n = omega arith in
    let here : get_or (drop n bs) 0 0 ≡ get_or bs n 0 = same ∙ ap (λ k. get_or bs k 0) zero' in
    (omega (arith, length-drop n bs), is_end_first (get_or (drop n bs) 0 0) (subst (λ b. (b == 13 || b == 10) ≡ true) (sym here) h))

pub first_ascii : (bs : List ℕ) → (get_or bs 0 0 ≡ 13) ⊎ (get_or bs 0 0 ≡ 10) → get_or bs 0 0 < 128
first_ascii bs (inl e) = omega arith
first_ascii bs (inr e) = omega arith

-- the same of a text, whose rest is a `drop`
pub both_end_text : (bs : List ℕ) → 1 < length bs → get_or bs 0 0 ≡ 13 → get_or bs 1 0 ≡ 10 → EndsWithRest bs (drop 2 bs)
both_end_text bs l e f = subst (EndsWithRest bs) (rest_of bs 2 (omega arith)) (both_end bs l e f)

pub one_end_text : (bs : List ℕ) → 0 < length bs → ((get_or bs 0 0 ≡ 13) ⊎ (get_or bs 0 0 ≡ 10)) → (get_or bs 0 0 ≡ 13 → 1 < length bs → get_or bs 1 0 ≢ 10)
    → EndsWithRest bs (drop 1 bs)
one_end_text bs l k n = subst (EndsWithRest bs) (rest_of bs 1 l) (one_end bs l k n)

-- no line end stands in a list in which none is found
pub HasNoEnd-whole : (bs : List ℕ) → ((k : ℕ) → 0 ≤ k → k < length bs → ¬ ((get_or bs k 0 == 13 || get_or bs k 0 == 10) ≡ true)) → HasNoEnd bs
HasNoEnd-whole bs h = subst HasNoEnd (take-length bs) (HasNoEnd-from_search bs (length bs) (omega arith) h)

-- a text in which no end is found is its only piece
pub last_text : (bs : List ℕ) → 0 < length bs → ((k : ℕ) → 0 ≤ k → k < length bs → ¬ ((get_or bs k 0 == 13 || get_or bs k 0 == 10) ≡ true)) → IsFirstPiece bs bs []
last_text [] l h = absurd (omega arith)
last_text (b ∷ bs) l h = (HasNoEnd-whole (b ∷ bs) h, inr (refl, refl, λ z. cc))

-- a text cut at its first line end
pub parts_of_cut : (bs piece back end rest : List ℕ) (n : ℕ) → piece ≡ take n bs → back ≡ drop n bs → back ≡ end ++ rest → bs ≡ piece ++ (end ++ rest)
parts_of_cut bs piece back end rest n e f s = sym (take-append-drop n bs) ∙ ap (λ x. x ++ drop n bs) (sym e) ∙ ap (λ x. piece ++ x) (sym f ∙ s)

pub end_ascii : (b : ℕ) → (b == 13 || b == 10) ≡ true → b < 128
end_ascii b h = elim (is_end_first b h) [ inl e ↦ omega arith | inr e ↦ omega arith ]

pub pieces_of_nil : (bs : List ℕ) → true ≡ (length bs == 0) → pieces_of bs ≡ []
pieces_of_nil [] e = refl
pieces_of_nil (b ∷ bs) e = absurd (grind (arith, nat_tests))

pub nil_of : (bs : List ℕ) → true ≡ (length bs == 0) → bs ≡ []
nil_of [] e = refl
nil_of (b ∷ bs) e = absurd (grind (arith, nat_tests))

end_not_nil : (end rest : List ℕ) → IsEnd end rest → 0 < length end
end_not_nil end rest (inl e) = omega (arith, ap length e)
end_not_nil end rest (inr (inl e)) = omega (arith, ap length e)
end_not_nil end rest (inr (inr (e, f))) = omega (arith, ap length e)

some_bytes : (bs : List ℕ) → bs ≢ [] → 0 < length bs
some_bytes [] n = absurd (n refl)
some_bytes (b ∷ bs) n = omega arith

-- each piece, with its end, has a byte
pub length-AreCutInto : (pieces : List (List ℕ)) (bytes : List ℕ) → AreCutInto bytes pieces → length pieces ≤ length bytes
length-AreCutInto [] bytes c = omega arith
length-AreCutInto (piece ∷ pieces) bytes (f, inl (none, e, n)) =
    let zero' : length pieces ≡ 0 = ap length none in
    let some : 0 < length piece = some_bytes piece n in
    omega (arith, ap length e)
length-AreCutInto (piece ∷ pieces) bytes (f, inr (end, rest, e, s, h)) =
    let more = length-AreCutInto pieces rest h in
    let some = end_not_nil end rest e in
    omega (arith, ap length s, length-append piece (end ++ rest), length-append end rest)
