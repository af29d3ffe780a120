-- The order of tags.
use Rattle.std.proofs.Common.{◌≡◌, ℕ, ◌+◌, ◌*◌, ◌<◌, ◌==◌, Bool, true, false, [], ◌∷◌, length, refl, sym, arith, Ordering, get_or}
use Rattle.std.specs.Prelude.{cond, codes, if◌then◌else◌}
use Rattle.std.specs.Str.{bytes_eq}
use Rattle.std.specs.Cmp.{nat_cmp_is, ranks}
use Rattle.std.specs.Ordering.{nat_cmp, ordering_then, MatchOrdering}
use Rattle.std.specs.Cmp.Lexicographic.{slice_cmp}
use Rattle.std.specs.declared.cmp.Ordering.TheVariants.{Less, Equal, Greater}
use Rattle.std.proofs.lemmas.Bool.Decides.{nat_tests}
use Rattle.ged_line.specs.Bytes.{Bytes}
use Rattle.ged_line.specs.Names.{tag_order}
use Rattle.ged_line.specs.inner.Ranks.{four_rank}

-- the number that four bytes spell, the highest first
abbrev spelled : ℕ → ℕ → ℕ → ℕ → ℕ
spelled a b c d = a * 16777216 + (b * 65536 + (c * 256 + d))

-- four bytes stand in the order of their numbers
by_numbers : (a b c d e f g h : ℕ) → a < 256 → b < 256 → c < 256 → d < 256 → e < 256 → f < 256 → g < 256 → h < 256
    → slice_cmp nat_cmp (a ∷ b ∷ c ∷ d ∷ []) (e ∷ f ∷ g ∷ h ∷ []) ≡ nat_cmp (spelled a b c d) (spelled e f g h)
by_numbers a b c d e f g h s1 s2 s3 s4 s5 s6 s7 s8 =
    nat_cmp_is (spelled a b c d) (spelled e f g h) (slice_cmp nat_cmp (a ∷ b ∷ c ∷ d ∷ []) (e ∷ f ∷ g ∷ h ∷ []))
    (by (nat_cmp a e) (ranks a e) (nat_cmp b f) (ranks b f) (nat_cmp c g) (ranks c g) (nat_cmp d h) (ranks d h))
  where
    by : (p : Ordering) → MatchOrdering p (a < e) (a ≡ e) (e < a) → (q : Ordering) → MatchOrdering q (b < f) (b ≡ f) (f < b)
        → (r : Ordering) → MatchOrdering r (c < g) (c ≡ g) (g < c) → (s : Ordering) → MatchOrdering s (d < h) (d ≡ h) (h < d)
        → MatchOrdering (ordering_then p (ordering_then q (ordering_then r (ordering_then s Equal))))
        (spelled a b c d < spelled e f g h) (spelled a b c d ≡ spelled e f g h) (spelled e f g h < spelled a b c d)
    by Less i q j r k s l = omega (arith, i, s1, s2, s3, s4, s5, s6, s7, s8)
    by Equal i Less j r k s l = omega (arith, i, j, s1, s2, s3, s4, s5, s6, s7, s8)
    by Equal i Equal j Less k s l = omega (arith, i, j, k, s1, s2, s3, s4, s5, s6, s7, s8)
    by Equal i Equal j Equal k Less l = omega (arith, i, j, k, l)
    by Equal i Equal j Equal k Equal l = omega (arith, i, j, k, l)
    by Equal i Equal j Equal k Greater l = omega (arith, i, j, k, l)
    by Equal i Equal j Greater k s l = omega (arith, i, j, k, s1, s2, s3, s4, s5, s6, s7, s8)
    by Equal i Greater j r k s l = omega (arith, i, j, s1, s2, s3, s4, s5, s6, s7, s8)
    by Greater i q j r k s l = omega (arith, i, s1, s2, s3, s4, s5, s6, s7, s8)

is_gedc : (a b c d : ℕ) → a < 256 → b < 256 → c < 256 → d < 256 → bytes_eq (a ∷ b ∷ c ∷ d ∷ []) (codes "GEDC") ≡ (spelled a b c d == 0x47454443)
is_gedc a b c d s1 s2 s3 s4 = grind (arith, nat_tests)

shifted : (n m : ℕ) → nat_cmp (n + 1) (m + 1) ≡ nat_cmp n m
shifted n m = nat_cmp_is n m (nat_cmp (n + 1) (m + 1)) (by (nat_cmp (n + 1) (m + 1)) (ranks (n + 1) (m + 1)))
  where
    by : (r : Ordering) → MatchOrdering r (n + 1 < m + 1) (n + 1 ≡ m + 1) (m + 1 < n + 1) → MatchOrdering r (n < m) (n ≡ m) (m < n)
    by Less h = omega (arith, h)
    by Equal h = omega (arith, h)
    by Greater h = omega (arith, h)

-- ranks stand in the order of tags
by_ranks : (n m : ℕ) (first second : Bool)
    → nat_cmp (if first then 0 else n + 1) (if second then 0 else m + 1) ≡ cond first (cond second Equal Less) (cond second Greater (nat_cmp n m))
by_ranks n m true true = refl
by_ranks n m true false = sym (nat_cmp_is 0 (m + 1) Less (omega arith))
by_ranks n m false true = sym (nat_cmp_is (n + 1) 0 Greater (omega arith))
by_ranks n m false false = shifted n m

abbrev FourBytes : Bytes → Type 0
FourBytes bytes = (a b c d : ℕ) × (a < 256) × (b < 256) × (c < 256) × (d < 256) × (bytes ≡ a ∷ b ∷ c ∷ d ∷ [])

four_bytes : (bytes : Bytes) → length bytes ≡ 4 → ((i : ℕ) → get_or bytes i 0 < 256) → FourBytes bytes
four_bytes [] e small = absurd (omega (arith, e))
four_bytes (a ∷ []) e small = absurd (omega (arith, e))
four_bytes (a ∷ b ∷ []) e small = absurd (omega (arith, e))
four_bytes (a ∷ b ∷ c ∷ []) e small = absurd (omega (arith, e))
four_bytes (a ∷ b ∷ c ∷ d ∷ []) e small = (a, b, c, d, small 0, small 1, small 2, small 3, refl)
four_bytes (a ∷ b ∷ c ∷ d ∷ _ ∷ more) e small = absurd (omega (arith, e))

-- tags of four bytes are in the order of their ranks
pub ranked : (tag other : Bytes) → length tag ≡ 4 → length other ≡ 4 → ((i : ℕ) → get_or tag i 0 < 256) → ((i : ℕ) → get_or other i 0 < 256)
    → nat_cmp (four_rank tag) (four_rank other) ≡ tag_order tag other
ranked tag other p q small few =
    let (a, b, c, d, s1, s2, s3, s4, first) = four_bytes tag p small in
    let (e, f, g, h, s5, s6, s7, s8, second) = four_bytes other q few in
    rw (first, second, is_gedc a b c d s1 s2 s3 s4, is_gedc e f g h s5 s6 s7 s8, by_numbers a b c d e f g h s1 s2 s3 s4 s5 s6 s7 s8)
    (by_ranks (spelled a b c d) (spelled e f g h) (spelled a b c d == 0x47454443) (spelled e f g h == 0x47454443))
