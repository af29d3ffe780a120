-- Bytes cut into blocks of whole lines, and the pieces that are left of them.
use Rattle.std.proofs.Common.{◌≡◌, ◌≢◌, ℕ, ◌+◌, ◌-◌, ◌<◌, ◌≤◌, ◌==◌, true, List, [], ◌∷◌, ◌++◌, inl, inr, length, get_or, take, drop, refl, sym, ◌∙◌, ap, subst, arith}
use Rattle.std.proofs.lemmas.Bool.Decides.{nat_tests}
use Rattle.std.proofs.lemmas.List.{take-append-drop, drop_more, get_or-drop, length-drop}
use Rattle.std.proofs.Math.Numerals.{add-one}
use Rattle.std.proofs.Math.Seq.{take-suc}
use Rattle.ged_line.specs.Bytes.{Bytes}
use Rattle.ged_line.specs.Pieces.{AreCutInto, with_front, pieces_of}
use Rattle.ged_line.proofs.bytes.Cutting.{same_or_not, pieces_front, pieces_only, after_lf, after_cr, are_cut, rest_of}

feed_not_nil : (bs : List ℕ) → bs ++ (10 ∷ []) ≢ []
feed_not_nil [] e = cc
feed_not_nil (b ∷ bs) e = cc

-- some bytes have some piece
pub pieces_some : (bytes : List ℕ) → pieces_of bytes ≡ [] → bytes ≡ []
pieces_some bytes e = subst (AreCutInto bytes) e (are_cut bytes)

-- the byte at the front of the first of some pieces
pub with_front-append : (b : ℕ) (xs ys : List (List ℕ)) → xs ≢ [] → with_front b (xs ++ ys) ≡ with_front b xs ++ ys
with_front-append b [] ys n = absurd (n refl)
with_front-append b (x ∷ xs) ys n = refl

-- the bytes up to a line feed have their pieces, and those behind it have theirs
abbrev AreApart : List ℕ → List ℕ → Type 0
AreApart front back = pieces_of (front ++ (10 ∷ back)) ≡ pieces_of (front ++ (10 ∷ [])) ++ pieces_of back

apart_feed : (front back : List ℕ) → AreApart front back → AreApart (10 ∷ front) back
apart_feed front back h = after_lf (front ++ (10 ∷ back)) ∙ ap (λ ps. [] ∷ ps) h ∙ ap (λ ps. ps ++ pieces_of back) (sym (after_lf (front ++ (10 ∷ []))))

apart_other : (b : ℕ) (front back : List ℕ) → b ≢ 13 → b ≢ 10 → AreApart front back → AreApart (b ∷ front) back
apart_other b front back f g h =
    pieces_front b (front ++ (10 ∷ back)) f g ∙ ap (with_front b) h
    ∙ with_front-append b (pieces_of (front ++ (10 ∷ []))) (pieces_of back) (λ e. feed_not_nil front (pieces_some (front ++ (10 ∷ [])) e))
    ∙ ap (λ ps. ps ++ pieces_of back) (sym (pieces_front b (front ++ (10 ∷ [])) f g))

pub not_feed : (c : ℕ) (cs more : List ℕ) → c ≢ 10 → c ∷ cs ≢ 10 ∷ more
not_feed c cs more n e = n (cc)

apart_carriage : (c : ℕ) (front back : List ℕ) → c ≢ 10 → AreApart (c ∷ front) back → AreApart (13 ∷ c ∷ front) back
apart_carriage c front back n h =
    after_cr (c ∷ (front ++ (10 ∷ back))) (λ more. not_feed c (front ++ (10 ∷ back)) more n) ∙ ap (λ ps. [] ∷ ps) h
    ∙ ap (λ ps. ps ++ pieces_of back) (sym (after_cr (c ∷ (front ++ (10 ∷ []))) (λ more. not_feed c (front ++ (10 ∷ [])) more n)))

apart_step : (b c : ℕ) (front back : List ℕ) → AreApart front back → AreApart (c ∷ front) back → AreApart (b ∷ c ∷ front) back
apart_step b c front back after next = elim (same_or_not b 10) [
  | inl lf ↦ rw lf (apart_feed (c ∷ front) back next)
  | inr f ↦ elim (same_or_not b 13) [
    | inl cr ↦ elim (same_or_not c 10) [
      | inl lf ↦ rw (cr, lf) (ap (λ ps. [] ∷ ps) after)
      | inr g ↦ rw cr (apart_carriage c front back g next)
    ]
    | inr g ↦ apart_other b (c ∷ front) back g f next
  ]
]

apart_one : (b : ℕ) (back : List ℕ) → AreApart (b ∷ []) back
apart_one b back = elim (same_or_not b 10) [
  | inl lf ↦ rw lf (apart_feed [] back (after_lf back))
  | inr f ↦ elim (same_or_not b 13) [
    | inl cr ↦ rw cr refl
    | inr g ↦ apart_other b [] back g f (after_lf back)
  ]
]

are_apart : (front back : List ℕ) → AreApart front back
are_apart [] back = after_lf back
are_apart (b ∷ []) back = apart_one b back
are_apart (b ∷ c ∷ front) back = apart_step b c front back (are_apart front back) (are_apart (c ∷ front) back)

apart_at : (bytes : List ℕ) (at : ℕ) → at < length bytes → get_or bytes at 0 ≡ 10 → pieces_of bytes ≡ pieces_of (take (at + 1) bytes) ++ pieces_of (drop (at + 1) bytes)
apart_at bytes at l e =
    let back = drop (at + 1) bytes in
    let whole : take at bytes ++ (10 ∷ back) ≡ bytes =
    ap (λ b. take at bytes ++ (b ∷ back)) (sym e) ∙ ap (λ x. take at bytes ++ x) (sym (drop_more bytes at 0 l)) ∙ take-append-drop at bytes in
    let front : take (at + 1) bytes ≡ take at bytes ++ (10 ∷ []) =
    ap (λ n. take n bytes) (add-one at) ∙ take-suc bytes at 0 l ∙ ap (λ b. take at bytes ++ (b ∷ [])) e in
    ap pieces_of (sym whole) ∙ are_apart (take at bytes) back ∙ ap (λ x. pieces_of x ++ pieces_of back) (sym front)

is_feed : (b : ℕ) → (b == 10) ≡ true → b ≡ 10
is_feed b h = grind (arith, nat_tests)

-- a block up to a line feed that was found behind its first n bytes
pub pieces_of_blocks : (bytes front back : List ℕ) (n at : ℕ) → n ≤ length bytes → at < length (take (length bytes - n) (drop n bytes))
    → (get_or (take (length bytes - n) (drop n bytes)) at 0 == 10) ≡ true → front ≡ take (n + at + 1) bytes → back ≡ drop (n + at + 1) bytes
    → pieces_of bytes ≡ pieces_of front ++ pieces_of back
pieces_of_blocks bytes front back n at l s f e g =
    let rest : take (length bytes - n) (drop n bytes) ≡ drop n bytes = rest_of bytes n l in
    let inside : at < length (drop n bytes) = subst (λ x. at < length x) rest s in
    let feed : get_or bytes (n + at) 0 ≡ 10 = sym (get_or-drop n bytes at 0) ∙ is_feed (get_or (drop n bytes) at 0) (subst (λ x. (get_or x at 0 == 10) ≡ true) rest f) in
    rw (e, g) (apart_at bytes (n + at) (omega (arith, length-drop n bytes)) feed)

-- a block without a piece is the end of the bytes
pub no_pieces : (bytes block : List ℕ) → (0 < length bytes → 0 < length block) → pieces_of block ≡ [] → pieces_of bytes ≡ []
no_pieces [] block h e = refl
no_pieces (b ∷ bytes) block h e =
    let none : length block ≡ 0 = ap length (pieces_some block e) in
    let some = h (omega arith) in
    absurd (omega arith)

-- no bytes have no pieces
pub none_before : (pieces rest : List Bytes) → AreCutInto [] pieces → pieces ++ rest ≡ rest
none_before pieces rest c = ap (λ ps. ps ++ rest) (pieces_only pieces [] c)

-- the pieces of a block are followed by those behind it
pub first_of_block : (bytes block : Bytes) (piece : Bytes) (others rest : List Bytes) → pieces_of bytes ≡ pieces_of block ++ rest → pieces_of block ≡ piece ∷ others
    → pieces_of bytes ≡ piece ∷ (others ++ rest)
first_of_block bytes block piece others rest e f = e ∙ ap (λ ps. ps ++ rest) f

-- the first piece that is left, where nothing is left of a text
pub first_behind : (now none pieces others rest : List Bytes) (piece : Bytes) → none ++ (pieces ++ rest) ≡ now → none ≡ [] → pieces ≡ piece ∷ others
    → now ≡ piece ∷ (none ++ (others ++ rest))
first_behind now none pieces others rest piece e n f = rw n (sym e ∙ ap (λ ps. ps ++ (pieces ++ rest)) n ∙ ap (λ ps. ps ++ rest) f)
