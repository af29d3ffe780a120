-- Bytes that come one part after another: their whole lines, and the pieces of these.
use Rattle.std.proofs.Common.{◌≡◌, ◌≢◌, ℕ, suc, zero, ◌+◌, ◌-◌, ◌<◌, ◌≤◌, ◌==◌, ◌||◌, true, List, [], ◌∷◌, ◌++◌, ◌⊎◌, inl, inr, Option, Some, None, length, get_or, take, drop, refl, sym, ◌∙◌, ap, subst, arith, length-drop, get_or-drop}
use Rattle.std.specs.List.{last_or, slice_get}
use Rattle.std.proofs.lemmas.List.Elements.{recursion_from_All, All-from_get_or}
use Rattle.ged_line.specs.Bytes.{Bytes}
use Rattle.ged_line.specs.Pieces.{HasNoEnd, IsBehindMark, AreCutInto, ArePiecesOf, with_front, pieces_of}
use Rattle.ged_line.specs.WholeLines.{EndsLine, AreWhole, WholePiecesStay, OneWholeFront}
use Rattle.ged_line.specs.inner.WholeLines.{IsBehindEnd}
use Rattle.ged_line.proofs.bytes.Cutting.{same_or_not, pieces_front, pieces_only, after_lf, after_cr, are_cut, is_end_first}
use Rattle.ged_line.proofs.bytes.WholeBlocks.{pieces_some, with_front-append, not_feed}

some_apart : (a b : ℕ) → a ≢ b → Some a ≡ Some b → ⊥
some_apart a b n e = n cc

no_byte : EndsLine [] → ⊥
no_byte (inl e) = cc
no_byte (inr e) = cc

-- the pieces of a front and of what comes behind it
abbrev IsGrown : Bytes → Bytes → Bytes → Type 0
IsGrown front more rest = pieces_of (front ++ more) ≡ pieces_of front ++ pieces_of rest

same_byte : (a b : ℕ) → Some a ≡ Some b → a ≡ b
same_byte a b e = cc

grown_one : (b : ℕ) (more rest : Bytes) → EndsLine (b ∷ []) → IsBehindEnd (b ∷ []) more rest → IsGrown (b ∷ []) more rest
grown_one b more rest e (inl (cr, is)) =
    subst (λ (x : ℕ). IsGrown (x ∷ []) more rest) (sym (same_byte b 13 cr))
    (subst (λ (bs : Bytes). IsGrown (13 ∷ []) bs rest) (sym is) refl)
grown_one b more rest (inl cr) (inr (is, other)) =
    subst (λ (x : ℕ). IsGrown (x ∷ []) more rest) (sym (same_byte b 13 cr))
    (after_cr more (other cr) ∙ ap (λ (bs : Bytes). [] ∷ pieces_of bs) is)
grown_one b more rest (inr lf) (inr (is, other)) =
    subst (λ (x : ℕ). IsGrown (x ∷ []) more rest) (sym (same_byte b 10 lf))
    (after_lf more ∙ ap (λ (bs : Bytes). [] ∷ pieces_of bs) is)

grown_pair : (b c : ℕ) (bs more rest : Bytes) → b ≡ 13 → c ≡ 10 → EndsLine (b ∷ c ∷ bs) → IsBehindEnd (b ∷ c ∷ bs) more rest
    → (EndsLine bs → IsBehindEnd bs more rest → IsGrown bs more rest) → IsGrown (b ∷ c ∷ bs) more rest
grown_pair b c [] more rest cr lf e (inl (last, is)) h = absurd (some_apart 10 13 (λ z. omega arith) (ap Some (sym lf) ∙ last))
grown_pair b c [] more rest cr lf e (inr (is, other)) h = rw (cr, lf) (ap (λ (bs : Bytes). [] ∷ pieces_of bs) is)
grown_pair b c (d ∷ ds) more rest cr lf e k h = rw (cr, lf) (ap (λ (ps : List Bytes). [] ∷ ps) (h e k))

some_pieces : (b : ℕ) (bs : Bytes) → pieces_of (b ∷ bs) ≢ []
some_pieces b bs e = let none : b ∷ bs ≡ [] = pieces_some (b ∷ bs) e in cc

grown_step : (b c : ℕ) (bs more rest : Bytes) → EndsLine (b ∷ c ∷ bs) → IsBehindEnd (b ∷ c ∷ bs) more rest
    → (EndsLine bs → IsBehindEnd bs more rest → IsGrown bs more rest) → IsGrown (c ∷ bs) more rest → IsGrown (b ∷ c ∷ bs) more rest
grown_step b c bs more rest e k after next = elim (same_or_not b 10) [
  | inl lf ↦ rw lf (ap (λ ps. [] ∷ ps) next)
  | inr f ↦ elim (same_or_not b 13) [
    | inl cr ↦ elim (same_or_not c 10) [
      | inl lf ↦ grown_pair b c bs more rest cr lf e k after
      | inr g ↦ rw cr (
          after_cr (c ∷ (bs ++ more)) (λ other. not_feed c (bs ++ more) other g) ∙ ap (λ ps. [] ∷ ps) next
          ∙ ap (λ ps. ps ++ pieces_of rest) (sym (after_cr (c ∷ bs) (λ other. not_feed c bs other g)))
          )
    ]
    | inr h ↦ pieces_front b (c ∷ (bs ++ more)) h f ∙ ap (with_front b) next
        ∙ with_front-append b (pieces_of (c ∷ bs)) (pieces_of rest) (some_pieces c bs)
        ∙ ap (λ ps. ps ++ pieces_of rest) (sym (pieces_front b (c ∷ bs) h f))
  ]
]

grown : (front more rest : Bytes) → EndsLine front → IsBehindEnd front more rest → IsGrown front more rest
grown [] more rest e k = absurd (no_byte e)
grown (b ∷ []) more rest e k = grown_one b more rest e k
grown (b ∷ c ∷ bs) more rest e k = grown_step b c bs more rest e k (grown bs more rest) (grown (c ∷ bs) more rest e k)

-- the mark of a front that ends a line is whole
last_behind : (bytes : Bytes) → EndsLine (0xEF ∷ 0xBB ∷ 0xBF ∷ bytes) → last_or None (0xEF ∷ 0xBB ∷ 0xBF ∷ bytes) ≡ last_or None bytes
last_behind [] (inl e) = absurd (some_apart 0xBF 13 (λ z. omega arith) e)
last_behind [] (inr e) = absurd (some_apart 0xBF 10 (λ z. omega arith) e)
last_behind (b ∷ bs) e = refl

no_mark : (file more : Bytes) → EndsLine file → ((rest : Bytes) → file ≢ 0xEF ∷ 0xBB ∷ 0xBF ∷ rest) → (rest : Bytes) → file ++ more ≢ 0xEF ∷ 0xBB ∷ 0xBF ∷ rest
no_mark [] more e n rest is = no_byte e
no_mark (a ∷ []) more (inl e) n rest is = let one : a ≡ 13 = same_byte a 13 e in let other : a ≡ 0xEF = cc in omega arith
no_mark (a ∷ []) more (inr e) n rest is = let one : a ≡ 10 = same_byte a 10 e in let other : a ≡ 0xEF = cc in omega arith
no_mark (a ∷ b ∷ []) more (inl e) n rest is = let one : b ≡ 13 = same_byte b 13 e in let other : b ≡ 0xBB = cc in omega arith
no_mark (a ∷ b ∷ []) more (inr e) n rest is = let one : b ≡ 10 = same_byte b 10 e in let other : b ≡ 0xBB = cc in omega arith
no_mark (a ∷ b ∷ c ∷ cs) more e n rest is =
    let first : a ≡ 0xEF = cc in
    let second : b ≡ 0xBB = cc in
    let third : c ≡ 0xBF = cc in
    n cs cc

behind_grown : (file bytes more : Bytes) → EndsLine file → IsBehindMark file bytes
    → IsBehindMark (file ++ more) (bytes ++ more) × (last_or None file ≡ last_or None bytes)
behind_grown file bytes more e (inl is) =
    (inl (ap (λ bs. bs ++ more) is), ap (last_or None) is ∙ last_behind bytes (subst EndsLine is e))
behind_grown file bytes more e (inr (is, n)) = (inr (ap (λ bs. bs ++ more) is, no_mark file more e n), ap (last_or None) is)

-- what ends a line is more than a mark
pub mark_no_line : (file bytes : Bytes) → EndsLine file → IsBehindMark file bytes → bytes ≡ [] → ⊥
mark_no_line file bytes e (inl is) none = no_byte (subst EndsLine none (or_last bytes (subst EndsLine is e)))
  where
    or_last : (bs : Bytes) → EndsLine (0xEF ∷ 0xBB ∷ 0xBF ∷ bs) → EndsLine bs
    or_last bs f = subst (λ (o : Option ℕ). (o ≡ Some 13) ⊎ (o ≡ Some 10)) (last_behind bs f) f
mark_no_line file bytes e (inr (is, n)) none = no_byte (subst EndsLine (is ∙ none) e)

-- the pieces of a file that ends a line are the first ones when more comes
pub pieces_grown : (front more rest : Bytes) (pieces : List Bytes) → EndsLine front → IsBehindEnd front more rest → ArePiecesOf front pieces
    → ArePiecesOf (front ++ more) (pieces ++ pieces_of rest)
pieces_grown front more rest pieces e k (bytes, m, c) =
    let both = behind_grown front bytes more e m in
    let ends : EndsLine bytes = subst (λ (o : Option ℕ). (o ≡ Some 13) ⊎ (o ≡ Some 10)) both.1 e in
    let behind : IsBehindEnd bytes more rest =
    subst (λ (o : Option ℕ). ((o ≡ Some 13) × (more ≡ 10 ∷ rest)) ⊎ ((more ≡ rest) × (o ≡ Some 13 → (bs : Bytes) → more ≢ 10 ∷ bs))) both.1 k in
    let same : pieces_of (bytes ++ more) ≡ pieces ++ pieces_of rest =
    grown bytes more rest ends behind ∙ ap (λ ps. ps ++ pieces_of rest) (sym (pieces_only pieces bytes c)) in
    (bytes ++ more, both.0, subst (AreCutInto (bytes ++ more)) same (are_cut (bytes ++ more)))

behind_end : (front more : Bytes) → EndsLine front → (rest : Bytes) × IsBehindEnd front more rest
behind_end front more (inr e) = (more, inr (refl, λ cr bs is. some_apart 13 10 (λ z. omega arith) (sym cr ∙ e)))
behind_end front [] (inl e) = ([], inr (refl, λ cr bs is. cc))
behind_end front (c ∷ cs) (inl e) = elim (same_or_not c 10) [
  | inl lf ↦ (cs, inl (e, ap (λ b. b ∷ cs) lf))
  | inr n ↦ (c ∷ cs, inr (refl, λ cr bs. not_feed c cs bs n))
]

pub whole_stay : WholePiecesStay
whole_stay front more pieces e c = let (rest, k) = behind_end front more e in (pieces_of rest, pieces_grown front more rest pieces e k c)

-- the last byte, as a slice tells it
pub last_of_slice : (bs : Bytes) → last_or None bs ≡ slice_get bs (length bs - 1)
last_of_slice [] = refl
last_of_slice (b ∷ []) = refl
last_of_slice (b ∷ c ∷ bs) =
    let low : suc (length bs) - 1 ≡ length bs = omega arith in
    let high : suc (suc (length bs)) - 1 ≡ suc (length bs) = omega arith in
    last_of_slice (c ∷ bs) ∙ ap (λ (k : ℕ). slice_get (c ∷ bs) k) low ∙ sym (ap (λ (k : ℕ). slice_get (b ∷ c ∷ bs) k) high)

none_apart : (a : ℕ) → None ≡ Some a → ⊥
none_apart a e = cc

nothing_last : (front : Bytes) → AreWhole front → None ≡ slice_get front (length front - 1) → front ≡ []
nothing_last front (inl e) n = e
nothing_last front (inr (inl e)) n = absurd (none_apart 13 (n ∙ sym (last_of_slice front) ∙ e))
nothing_last front (inr (inr e)) n = absurd (none_apart 10 (n ∙ sym (last_of_slice front) ∙ e))

no_pieces_of : (pieces : List Bytes) → ArePiecesOf [] pieces → pieces ≡ []
no_pieces_of pieces (bytes, inl e, c) = cc
no_pieces_of pieces (bytes, inr (e, n), c) = pieces_only pieces bytes c ∙ ap pieces_of (sym e)

-- the pieces of what comes first, and of what comes behind whole lines
pub first_pieces : (front more : Bytes) (others : List Bytes) → AreWhole front → None ≡ slice_get front (length front - 1) → ArePiecesOf more others
    → (pieces : List Bytes) → ArePiecesOf front pieces → ArePiecesOf (front ++ more) (pieces ++ others)
first_pieces front more others w n c pieces d =
    let none = nothing_last front w n in
    subst (λ (bs : Bytes). ArePiecesOf (bs ++ more) (pieces ++ others)) (sym none)
    (subst (λ (ps : List Bytes). ArePiecesOf more (ps ++ others)) (sym (no_pieces_of pieces (subst (λ (bs : Bytes). ArePiecesOf bs pieces) none d))) c)

pub later_pieces : (front more rest : Bytes) (others : List Bytes) (last : ℕ) → AreWhole front → Some last ≡ slice_get front (length front - 1)
    → ((bytes : Bytes) → last_or None bytes ≡ Some last → IsBehindEnd bytes more rest) → others ≡ pieces_of rest
    → (pieces : List Bytes) → ArePiecesOf front pieces → ArePiecesOf (front ++ more) (pieces ++ others)
later_pieces front more rest others last (inl e) n k is pieces d =
    absurd (let other : Some last ≡ None = n ∙ ap (λ (bs : Bytes). slice_get bs (length bs - 1)) e in cc)
later_pieces front more rest others last (inr e) n k is pieces d =
    subst (λ (ps : List Bytes). ArePiecesOf (front ++ more) (pieces ++ ps)) (sym is)
    (pieces_grown front more rest pieces e (k front (last_of_slice front ∙ sym n)) d)

-- no line end stands in bytes that have none
none_ends : (xs ys : Bytes) → EndsLine xs → HasNoEnd (xs ++ ys) → ⊥
none_ends [] ys e f = no_byte e
none_ends (x ∷ []) ys (inl e) f = f.0.0 cc
none_ends (x ∷ []) ys (inr e) f = f.0.1 cc
none_ends (x ∷ y ∷ xs) ys e f = none_ends (y ∷ xs) ys e f.1

whole_tail : (x : ℕ) (xs : Bytes) → AreWhole (x ∷ xs) → AreWhole xs
whole_tail x [] w = inl refl
whole_tail x (y ∷ ys) (inl e) = cc
whole_tail x (y ∷ ys) (inr e) = inr e

not_whole : (xs ys zs : Bytes) (x : ℕ) → AreWhole (x ∷ xs) → zs ≡ (x ∷ xs) ++ ys → HasNoEnd zs → ⊥
not_whole xs ys zs x (inl e) is f = cc
not_whole xs ys zs x (inr e) is f = none_ends (x ∷ xs) ys e (subst HasNoEnd is f)

same_front : (front other a b : Bytes) → front ++ a ≡ other ++ b → AreWhole front → AreWhole other → HasNoEnd a → HasNoEnd b → front ≡ other
same_front [] [] a b e v w f g = refl
same_front [] (y ∷ ys) a b e v w f g = absurd (not_whole ys b a y w e f)
same_front (x ∷ xs) [] a b e v w f g = absurd (not_whole xs a b x v (sym e) g)
same_front (x ∷ xs) (y ∷ ys) a b e v w f g =
    let tails : xs ++ a ≡ ys ++ b = cc in
    let heads : x ≡ y = cc in
    let same : xs ≡ ys = same_front xs ys a b tails (whole_tail x xs v) (whole_tail y ys w) f g in
    cc

pub one_whole : OneWholeFront
one_whole bytes front other s t = same_front front other s.waiting t.waiting (sym s.parts ∙ t.parts) s.whole t.whole s.unended t.unended

-- bytes cut behind their last line end
last_taken : (bs : Bytes) (n : ℕ) → n < length bs → last_or None (take (suc n) bs) ≡ Some (get_or bs n 0)
last_taken [] n l = absurd (omega arith)
last_taken (b ∷ bs) zero l = refl
last_taken (b ∷ []) (suc n) l = absurd (omega arith)
last_taken (b ∷ c ∷ bs) (suc n) l = last_taken (c ∷ bs) n (omega arith)

pub EndsLine-taken : (bs front : Bytes) (n : ℕ) → n < length bs → (get_or bs n 0 == 13 || get_or bs n 0 == 10) ≡ true → front ≡ take (n + 1) bs → EndsLine front
EndsLine-taken bs front n l h is =
    let long : n + 1 ≡ suc n = omega arith in
    let last : last_or None front ≡ Some (get_or bs n 0) = ap (last_or None) is ∙ ap (λ k. last_or None (take k bs)) long ∙ last_taken bs n l in
    go (is_end_first (get_or bs n 0) h) last
  where
    go : (get_or bs n 0 ≡ 13) ⊎ (get_or bs n 0 ≡ 10) → last_or None front ≡ Some (get_or bs n 0) → EndsLine front
    go (inl e) f = inl (f ∙ ap Some e)
    go (inr e) f = inr (f ∙ ap Some e)

not_end : (b : ℕ) → ¬ ((b == 13 || b == 10) ≡ true) → (b ≢ 13) × (b ≢ 10)
not_end b h = (λ e. h (rw e refl), λ e. h (rw e refl))

pub HasNoEnd-dropped : (bs rest : Bytes) (n : ℕ) → ((k : ℕ) → n + 1 ≤ k → k < length bs → ¬ ((get_or bs k 0 == 13 || get_or bs k 0 == 10) ≡ true))
    → rest ≡ drop (n + 1) bs → HasNoEnd rest
HasNoEnd-dropped bs rest n h is =
    subst HasNoEnd (sym is) (recursion_from_All (λ b. (b ≢ 13) × (b ≢ 10)) (drop (n + 1) bs) (All-from_get_or (λ b. (b ≢ 13) × (b ≢ 10)) (drop (n + 1) bs) 0 (λ i l.
    let long : length (drop (n + 1) bs) ≡ length bs - (n + 1) = length-drop (n + 1) bs in
    let at : get_or (drop (n + 1) bs) i 0 ≡ get_or bs (n + 1 + i) 0 = get_or-drop (n + 1) bs i 0 in
    not_end (get_or (drop (n + 1) bs) i 0) (λ e. h (n + 1 + i) (omega arith) (omega arith) (subst (λ b. (b == 13 || b == 10) ≡ true) at e)))))

-- bytes put together
pub EndsLine-behind : (xs ys : Bytes) → EndsLine ys → EndsLine (xs ++ ys)
EndsLine-behind [] ys e = e
EndsLine-behind (x ∷ xs) [] e = absurd (no_byte e)
EndsLine-behind (x ∷ []) (y ∷ ys) e = e
EndsLine-behind (x ∷ z ∷ xs) (y ∷ ys) e = EndsLine-behind (z ∷ xs) (y ∷ ys) e

pub HasNoEnd-append : (xs ys : Bytes) → HasNoEnd xs → HasNoEnd ys → HasNoEnd (xs ++ ys)
HasNoEnd-append [] ys f g = g
HasNoEnd-append (x ∷ xs) ys f g = (f.0, HasNoEnd-append xs ys f.1 g)
