-- The order of tags is that of their ranks.
use Rattle.std.proofs.Common.{◌≡◌, ℕ, zero, suc, ◌+◌, ◌*◌, ◌<◌, ◌≤◌, ◌%◌, ◌==◌, Bool, true, false, cond, [], ◌∷◌, length, get_or, refl, sym, ap, ◌∙◌, arith}
use Rattle.std.specs.Prelude.{codes, min, nat_lt}
use Rattle.std.specs.Str.{bytes_eq}
use Rattle.std.specs.Cmp.{nat_cmp_is, ranks}
use Rattle.std.specs.Ordering.{nat_cmp, ordering_then, ordering_reverse, MatchOrdering}
use Rattle.std.specs.Cmp.Lexicographic.{slice_cmp}
use Rattle.std.specs.declared.cmp.Ordering.{Ordering}
use Rattle.std.specs.declared.cmp.Ordering.TheVariants.{Less, Equal, Greater}
use Rattle.std.proofs.lemmas.Bool.Decides.{nat_tests}
use Rattle.std.proofs.lemmas.Cmp.{nat_cmp_total, nat_list_cmp_total, tied_itself}
use Rattle.ged_line.specs.Bytes.{Bytes}
use Rattle.ged_line.specs.Names.{tag_order}
use Rattle.ged_canon.specs.inner.Ranks.{unit, front, counted, own_rank, tag_rank, rest_of_tag}

abbrev AreBytes : Bytes → Type 0
AreBytes bytes = (i : ℕ) → get_or bytes i 0 < 256

rest_bytes : (b : ℕ) (bs : Bytes) → AreBytes (b ∷ bs) → AreBytes bs
rest_bytes b bs small = λ i. small (suc i)

some_unit : (n : ℕ) → 0 < unit n
some_unit zero = omega arith
some_unit (suc n) = omega (arith, some_unit n)

-- a lower digit, and all that may stand below it
digit_below : (x y u : ℕ) → x < y → x * u + u ≤ y * u
digit_below x zero u h = absurd (omega (arith, h))
digit_below zero (suc y) u h = omega arith
digit_below (suc x) (suc y) u h = omega (arith, digit_below x y u (omega (arith, h)))

front_within : (n : ℕ) (bs : Bytes) → AreBytes bs → front n bs < unit n
front_within zero bs small = omega arith
front_within (suc n) [] small = omega (arith, some_unit n)
front_within (suc n) (b ∷ bs) small = omega (arith, digit_below b 256 (unit n) (small 0), front_within n bs (rest_bytes b bs small))

less_front : (n : ℕ) (a b : Bytes) → AreBytes a → AreBytes b → front n a < front n b → slice_cmp nat_cmp a b ≡ Less
less_front zero a b s t h = absurd (omega (arith, h))
less_front (suc n) [] [] s t h = absurd (omega (arith, h))
less_front (suc n) [] (y ∷ ys) s t h = refl
less_front (suc n) (x ∷ xs) [] s t h = absurd (omega (arith, h))
less_front (suc n) (x ∷ xs) (y ∷ ys) s t h = by (nat_cmp x y) (ranks x y) (less_front n xs ys (rest_bytes x xs s) (rest_bytes y ys t))
  where
    by : (o : Ordering) → MatchOrdering o (x < y) (x ≡ y) (y < x) → (front n xs < front n ys → slice_cmp nat_cmp xs ys ≡ Less) → ordering_then o (slice_cmp nat_cmp xs ys) ≡ Less
    by Less i rest = refl
    by Equal i rest = rest (omega (arith, h, ap (λ d. d * unit n) i))
    by Greater i rest = absurd (omega (arith, h, digit_below y x (unit n) i, front_within n ys (rest_bytes y ys t)))

one_digit : (n x y : ℕ) (xs ys : Bytes) → AreBytes xs → AreBytes ys → x * unit n + front n xs ≡ y * unit n + front n ys → x ≡ y
one_digit n x y xs ys s t e = by (nat_cmp x y) (ranks x y)
  where
    by : (o : Ordering) → MatchOrdering o (x < y) (x ≡ y) (y < x) → x ≡ y
    by Less i = absurd (omega (arith, e, digit_below x y (unit n) i, front_within n xs s))
    by Equal i = i
    by Greater i = absurd (omega (arith, e, digit_below y x (unit n) i, front_within n ys t))

less_count : (n : ℕ) (a b : Bytes) → AreBytes a → AreBytes b → front n a ≡ front n b → counted n a < counted n b → slice_cmp nat_cmp a b ≡ Less
less_count n [] [] s t e h = absurd (omega (arith, h))
less_count n [] (y ∷ ys) s t e h = refl
less_count n (x ∷ xs) [] s t e h = absurd (omega (arith, h))
less_count zero (x ∷ xs) (y ∷ ys) s t e h = absurd (omega (arith, h))
less_count (suc n) (x ∷ xs) (y ∷ ys) s t e h =
    let same = one_digit n x y xs ys (rest_bytes x xs s) (rest_bytes y ys t) e in
    let tied : nat_cmp x y ≡ Equal = ap (nat_cmp x) (sym same) ∙ tied_itself nat_cmp_total x in
    ap (λ o. ordering_then o (slice_cmp nat_cmp xs ys)) tied
    ∙ less_count n xs ys (rest_bytes x xs s) (rest_bytes y ys t) (omega (arith, e, ap (λ d. d * unit n) same)) (omega (arith, h))

same_text : (n : ℕ) (a b : Bytes) → AreBytes a → AreBytes b → front n a ≡ front n b → counted n a ≡ counted n b → counted n a ≤ n → a ≡ b
same_text n [] [] s t e h k = refl
same_text zero [] (y ∷ ys) s t e h k = absurd (omega (arith, h))
same_text (suc n) [] (y ∷ ys) s t e h k = absurd (omega (arith, h))
same_text zero (x ∷ xs) b s t e h k = absurd (omega (arith, k))
same_text (suc n) (x ∷ xs) [] s t e h k = absurd (omega (arith, h))
same_text (suc n) (x ∷ xs) (y ∷ ys) s t e h k =
    let same = one_digit n x y xs ys (rest_bytes x xs s) (rest_bytes y ys t) e in
    let rest = same_text n xs ys (rest_bytes x xs s) (rest_bytes y ys t) (omega (arith, e, ap (λ d. d * unit n) same)) (omega (arith, h)) (omega (arith, k)) in
    λ i. same i ∷ rest i

few : (n : ℕ) (a : Bytes) → counted n a ≤ n + 1
few n [] = omega arith
few zero (x ∷ xs) = omega arith
few (suc n) (x ∷ xs) = omega (arith, few n xs)

less_rank : (a b : Bytes) → AreBytes a → AreBytes b → own_rank a < own_rank b → slice_cmp nat_cmp a b ≡ Less
less_rank a b s t h = by (nat_cmp (front 7 a) (front 7 b)) (ranks (front 7 a) (front 7 b))
  where
    by : (o : Ordering) → MatchOrdering o (front 7 a < front 7 b) (front 7 a ≡ front 7 b) (front 7 b < front 7 a) → slice_cmp nat_cmp a b ≡ Less
    by Less i = less_front 7 a b s t i
    by Equal i = less_count 7 a b s t i (omega (arith, h, i))
    by Greater i = absurd (omega (arith, h, i, few 7 a, few 7 b))

own_order : (a b : Bytes) → AreBytes a → AreBytes b → (own_rank a ≡ own_rank b → counted 7 a ≤ 7) → nat_cmp (own_rank a) (own_rank b) ≡ slice_cmp nat_cmp a b
own_order a b s t whole = by (nat_cmp (own_rank a) (own_rank b)) (ranks (own_rank a) (own_rank b))
  where
    by : (o : Ordering) → MatchOrdering o (own_rank a < own_rank b) (own_rank a ≡ own_rank b) (own_rank b < own_rank a) → o ≡ slice_cmp nat_cmp a b
    by Less i = sym (less_rank a b s t i)
    by Equal i =
        let fronts : front 7 a ≡ front 7 b = omega (arith, i, few 7 a, few 7 b) in
        let same = same_text 7 a b s t fronts (omega (arith, i, fronts)) (whole i) in
        sym (ap (slice_cmp nat_cmp a) (sym same) ∙ tied_itself nat_list_cmp_total a)
    by Greater i = sym (nat_list_cmp_total.antisymm a b ∙ ap ordering_reverse (less_rank b a t s i))

-- where equal ranks are of short tags, ranks stand in the order of the tags
pub by_ranks : (a b : Bytes) → AreBytes a → AreBytes b → (tag_rank a ≡ tag_rank b → tag_rank a % 256 ≤ 8) → nat_cmp (tag_rank a) (tag_rank b) ≡ tag_order a b
by_ranks a b s t whole = by (bytes_eq a (codes "GEDC")) (bytes_eq b (codes "GEDC")) whole
  where
    by : (first second : Bool) → (cond first 0 (own_rank a) ≡ cond second 0 (own_rank b) → cond first 0 (own_rank a) % 256 ≤ 8)
        → nat_cmp (cond first 0 (own_rank a)) (cond second 0 (own_rank b)) ≡ cond first (cond second Equal Less) (cond second Greater (slice_cmp nat_cmp a b))
    by true true w = refl
    by true false w = sym (nat_cmp_is 0 (own_rank b) Less (omega arith))
    by false true w = sym (nat_cmp_is (own_rank a) 0 Greater (omega arith))
    by false false w = own_order a b s t (λ e. let r : own_rank a % 256 ≤ 8 = w e in omega (arith, r, few 7 a))

-- Ranks, and behind them what they do not tell.

is_short : (rank : ℕ) → rank % 256 ≤ 8 → nat_lt 8 (rank % 256) ≡ false
is_short rank h = grind (arith, nat_tests)

is_long : (rank : ℕ) → 8 < rank % 256 → nat_lt 8 (rank % 256) ≡ true
is_long rank h = grind (arith, nat_tests)

-- ranks tell the order, unless they are one rank of long tags
pub order_told : (r q : ℕ) (a b : Bytes) → (r ≡ q → r % 256 ≤ 8) → ordering_then (nat_cmp r q) (slice_cmp nat_cmp (rest_of_tag r a) (rest_of_tag q b)) ≡ nat_cmp r q
order_told r q a b short = by (nat_cmp r q) (ranks r q)
  where
    by : (o : Ordering) → MatchOrdering o (r < q) (r ≡ q) (q < r) → ordering_then o (slice_cmp nat_cmp (rest_of_tag r a) (rest_of_tag q b)) ≡ o
    by Less i = refl
    by Equal i =
        let first = is_short r (short i) in
        let second = is_short q (omega (arith, i, short i)) in
        λ j. slice_cmp nat_cmp (cond (first j) a []) (cond (second j) b [])
    by Greater i = refl

-- else the tags do
pub order_left : (r q : ℕ) (a b : Bytes) → r ≡ q → 8 < r % 256 → ordering_then (nat_cmp r q) (slice_cmp nat_cmp (rest_of_tag r a) (rest_of_tag q b)) ≡ slice_cmp nat_cmp a b
order_left r q a b e long =
    let tied = sym (nat_cmp_is r q Equal e) in
    let first = is_long r long in
    let second = is_long q (omega (arith, e, long)) in
    λ j. ordering_then (tied j) (slice_cmp nat_cmp (cond (first j) a []) (cond (second j) b []))

not_gedc : (tag : Bytes) → 8 < tag_rank tag % 256 → bytes_eq tag (codes "GEDC") ≡ false
not_gedc tag long = by (bytes_eq tag (codes "GEDC")) long
  where
    by : (t : Bool) → 8 < cond t 0 (own_rank tag) % 256 → t ≡ false
    by true h = absurd (omega (arith, h))
    by false h = refl

-- both together are the order of tags
pub by_keys : (a b : Bytes) → AreBytes a → AreBytes b
    → ordering_then (nat_cmp (tag_rank a) (tag_rank b)) (slice_cmp nat_cmp (rest_of_tag (tag_rank a) a) (rest_of_tag (tag_rank b) b)) ≡ tag_order a b
by_keys a b s t = by (tag_rank a == tag_rank b) (nat_lt 8 (tag_rank a % 256)) refl refl
  where
    same : (n m : ℕ) → (n == m) ≡ true → n ≡ m
    same n m e = grind (arith, nat_tests)

    other : (n m : ℕ) → (n == m) ≡ false → n ≡ m → ⊥
    other n m e i = grind (arith, nat_tests)

    above : (n : ℕ) → nat_lt 8 n ≡ true → 8 < n
    above n e = grind (arith, nat_tests)

    below : (n : ℕ) → nat_lt 8 n ≡ false → n ≤ 8
    below n e = grind (arith, nat_tests)

    by : (level long : Bool) → (tag_rank a == tag_rank b) ≡ level → nat_lt 8 (tag_rank a % 256) ≡ long
        → ordering_then (nat_cmp (tag_rank a) (tag_rank b)) (slice_cmp nat_cmp (rest_of_tag (tag_rank a) a) (rest_of_tag (tag_rank b) b)) ≡ tag_order a b
    by true true p q =
        let e = same (tag_rank a) (tag_rank b) p in
        let long : 8 < tag_rank a % 256 = above (tag_rank a % 256) q in
        let first = not_gedc a long in
        let second = not_gedc b (omega (arith, e, long)) in
        order_left (tag_rank a) (tag_rank b) a b e long
        ∙ sym (λ i. cond (first i) (cond (second i) Equal Less) (cond (second i) Greater (slice_cmp nat_cmp a b)))
    by true false p q =
        let short : tag_rank a % 256 ≤ 8 = below (tag_rank a % 256) q in
        order_told (tag_rank a) (tag_rank b) a b (λ e. short) ∙ by_ranks a b s t (λ e. short)
    by false long p q =
        let apart = other (tag_rank a) (tag_rank b) p in
        order_told (tag_rank a) (tag_rank b) a b (λ e. absurd (apart e)) ∙ by_ranks a b s t (λ e. absurd (apart e))

-- The rank of four bytes, and of any.

pub rank_of_four : (tag : Bytes) (number : ℕ) → length tag ≡ 4 → AreBytes tag
    → number ≡ get_or tag 0 0 * 16777216 + (get_or tag 1 0 * 65536 + (get_or tag 2 0 * 256 + get_or tag 3 0))
    → tag_rank tag ≡ cond (number == 0x47454443) 0 (number * 4294967296 + 5)
rank_of_four [] number e small is = absurd (omega (arith, e))
rank_of_four (a ∷ []) number e small is = absurd (omega (arith, e))
rank_of_four (a ∷ b ∷ []) number e small is = absurd (omega (arith, e))
rank_of_four (a ∷ b ∷ c ∷ []) number e small is = absurd (omega (arith, e))
rank_of_four (a ∷ b ∷ c ∷ d ∷ []) number e small is =
    let gedc = is_gedc a b c d (small 0) (small 1) (small 2) (small 3) in
    let own : own_rank (a ∷ b ∷ c ∷ d ∷ []) ≡ number * 4294967296 + 5 = omega (arith, is) in
    (λ i. cond (gedc i) 0 (own i)) ∙ ap (λ n. cond (n == 0x47454443) 0 (number * 4294967296 + 5)) (sym is)
  where
    is_gedc : (a b c d : ℕ) → a < 256 → b < 256 → c < 256 → d < 256 → bytes_eq (a ∷ b ∷ c ∷ d ∷ []) (codes "GEDC") ≡ (a * 16777216 + (b * 65536 + (c * 256 + d)) == 0x47454443)
    is_gedc a b c d s1 s2 s3 s4 = grind (arith, nat_tests)
rank_of_four (a ∷ b ∷ c ∷ d ∷ _ ∷ more) number e small is = absurd (omega (arith, e))

pub front_of_any : (tag : Bytes) → front 7 tag
    ≡ get_or tag 0 0 * 281474976710656 + get_or tag 1 0 * 1099511627776 + get_or tag 2 0 * 4294967296
    + get_or tag 3 0 * 16777216 + get_or tag 4 0 * 65536 + get_or tag 5 0 * 256 + get_or tag 6 0
front_of_any [] = refl
front_of_any (a ∷ []) = omega arith
front_of_any (a ∷ b ∷ []) = omega arith
front_of_any (a ∷ b ∷ c ∷ []) = omega arith
front_of_any (a ∷ b ∷ c ∷ d ∷ []) = omega arith
front_of_any (a ∷ b ∷ c ∷ d ∷ e ∷ []) = omega arith
front_of_any (a ∷ b ∷ c ∷ d ∷ e ∷ f ∷ []) = omega arith
front_of_any (a ∷ b ∷ c ∷ d ∷ e ∷ f ∷ g ∷ more) = omega arith

pub counted_is : (n : ℕ) (tag : Bytes) → counted n tag ≡ min (length tag) (n + 1)
counted_is n [] = omega arith
counted_is zero (a ∷ more) = omega arith
counted_is (suc n) (a ∷ more) = omega (arith, counted_is n more)
