-- Siblings gathered by rising ranks are siblings put in one at a time.
use Rattle.std.proofs.Common.{◌≡◌, ℕ, zero, suc, ◌+◌, ◌<◌, ◌≤◌, ◌%◌, ◌==◌, ◌++◌, Bool, true, false, cond, List, [], ◌∷◌, filter, length, take, drop, append_assoc, append-nil, drop-cons, Vec, Global, refl, sym, ap, ◌∙◌, subst, inl, inr, arith}
use Rattle.std.specs.List.{AllByRecursion, slice_index_or, slice_set}
use Rattle.std.proofs.lemmas.List.Elements.{filter-append}
use Rattle.std.proofs.lemmas.Bool.Decides.{nat_tests}
use Rattle.std.proofs.lemmas.Slice.{take-put_mid}
use borrow.Rule.Slice.PartMut.{put_mid}
use Rattle.ged_canon.specs.declared.writer.rank.RankedSibling.{RankedSibling}
use Rattle.ged_canon.specs.inner.Gathered.{has_rank, groups_of, members, joined, placed, IsRising, IsAmongRanks}
use Rattle.ged_canon.specs.inner.Siblings.{IsTold, rank_key}
use Rattle.ged_canon.proofs.writer.SortKeys.{all_weaker, stays, falls_below}
use Rattle.ged_canon.proofs.writer.StableSort.{put, put_all}

-- Lists.

all_both : (P : RankedSibling → Type 0) (xs ys : List RankedSibling) → AllByRecursion P xs → AllByRecursion P ys → AllByRecursion P (xs ++ ys)
all_both P [] ys h k = k
all_both P (x ∷ xs) ys h k = (h.0, all_both P xs ys h.1 k)

filtered : (r : ℕ) (xs : List RankedSibling) → AllByRecursion (λ y. y.rank ≡ r) (filter (has_rank r) xs)
filtered r [] = tt
filtered r (x ∷ xs) = by (has_rank r x) refl (filtered r xs)
  where
    same : (n m : ℕ) → (n == m) ≡ true → n ≡ m
    same n m e = grind (arith, nat_tests)

    by : (t : Bool) → has_rank r x ≡ t → AllByRecursion (λ y. y.rank ≡ r) (filter (has_rank r) xs) → AllByRecursion (λ y. y.rank ≡ r) (cond t (x ∷ filter (has_rank r) xs) (filter (has_rank r) xs))
    by true e rest = (same x.rank r e, rest)
    by false e rest = rest

is_rank : (r n : ℕ) → n ≡ r → (n == r) ≡ true
is_rank r n e = grind (arith, nat_tests)

is_above : (r n : ℕ) → r < n → (n == r) ≡ false
is_above r n h = grind (arith, nat_tests)

is_below : (r n : ℕ) → n < r → (n == r) ≡ false
is_below r n h = grind (arith, nat_tests)

-- Siblings put in one at a time.

put_behind : (x : RankedSibling) (ys zs : List RankedSibling) → AllByRecursion (λ y. y.rank < x.rank) ys → put rank_key x (ys ++ zs) ≡ ys ++ put rank_key x zs
put_behind x [] zs h = refl
put_behind x (y ∷ ys) zs h = let e = falls_below x y h.0 in rw e (ap (λ l. y ∷ l) (put_behind x ys zs h.1))

put_ahead : (x : RankedSibling) (ys : List RankedSibling) → AllByRecursion (λ y. x.rank ≤ y.rank) ys → put rank_key x ys ≡ x ∷ ys
put_ahead x [] h = refl
put_ahead x (y ∷ ys) h = let e = stays x y h.0 in rw e

-- Groups.

abbrev gathered : List ℕ → List RankedSibling → List RankedSibling
gathered ranks xs = joined (groups_of ranks xs)

above : (n : ℕ) (ranks : List ℕ) (x : RankedSibling) → AllByRecursion (λ next. n < next) ranks → IsAmongRanks ranks x → n < x.rank
above n [] x h m = absurd m
above n (r ∷ ranks) x h (inl e) = omega (arith, h.0, e)
above n (r ∷ ranks) x h (inr m) = above n ranks x h.1 m

-- what is gathered by ranks above one has ranks above it
later : (n : ℕ) (ranks : List ℕ) (xs : List RankedSibling) → AllByRecursion (λ next. n < next) ranks → AllByRecursion (λ y. n < y.rank) (gathered ranks xs)
later n [] xs h = tt
later n (r ∷ ranks) xs h =
    all_both (λ y. n < y.rank) (filter (has_rank r) xs) (gathered ranks xs)
    (all_weaker (λ y. y.rank ≡ r) (λ y. n < y.rank) (filter (has_rank r) xs) (λ y k. omega (arith, k, h.0)) (filtered r xs))
    (later n ranks xs h.1)

absent : (x : RankedSibling) (ranks : List ℕ) (xs : List RankedSibling) → AllByRecursion (λ next. x.rank < next) ranks → gathered ranks (x ∷ xs) ≡ gathered ranks xs
absent x [] xs h = refl
absent x (r ∷ ranks) xs h =
    let e : (x.rank == r) ≡ false = is_below r x.rank h.0 in
    rw e (ap (λ l. filter (has_rank r) xs ++ l) (absent x ranks xs h.1))

gather_one : (ranks : List ℕ) (x : RankedSibling) (xs : List RankedSibling) → IsRising ranks → IsAmongRanks ranks x → gathered ranks (x ∷ xs) ≡ put rank_key x (gathered ranks xs)
gather_one [] x xs rise m = absurd m
gather_one (r ∷ ranks) x xs rise (inl e) =
    let here : (x.rank == r) ≡ true = is_rank r x.rank e in
    let own = filter (has_rank r) xs in
    let rest = subst (λ n. AllByRecursion (λ next. n < next) ranks) (sym e) rise.1 in
    let firsts = all_weaker (λ y. y.rank ≡ r) (λ y. x.rank ≤ y.rank) own (λ y k. omega (arith, e, k)) (filtered r xs) in
    let lasts = all_weaker (λ y. r < y.rank) (λ y. x.rank ≤ y.rank) (gathered ranks xs) (λ y k. omega (arith, e, k)) (later r ranks xs rise.1) in
    ap (λ b. cond b (x ∷ own) own ++ gathered ranks (x ∷ xs)) here
    ∙ ap (λ l. x ∷ (own ++ l)) (absent x ranks xs rest)
    ∙ sym (put_ahead x (own ++ gathered ranks xs) (all_both (λ y. x.rank ≤ y.rank) own (gathered ranks xs) firsts lasts))
gather_one (r ∷ ranks) x xs rise (inr m) =
    let higher : r < x.rank = above r ranks x rise.1 m in
    let here : (x.rank == r) ≡ false = is_above r x.rank higher in
    let own = filter (has_rank r) xs in
    let firsts = all_weaker (λ y. y.rank ≡ r) (λ y. y.rank < x.rank) own (λ y k. omega (arith, higher, k)) (filtered r xs) in
    ap (λ b. cond b (x ∷ own) own ++ gathered ranks (x ∷ xs)) here
    ∙ ap (λ l. own ++ l) (gather_one ranks x xs rise.2 m)
    ∙ sym (put_behind x own (gathered ranks xs) firsts)

none_gathered : (ranks : List ℕ) → gathered ranks [] ≡ []
none_gathered [] = refl
none_gathered (r ∷ ranks) = none_gathered ranks

-- siblings, all of these ranks, gathered, are siblings put in one at a time
pub gathered_is : (ranks : List ℕ) (xs : List RankedSibling) → IsRising ranks → AllByRecursion (IsAmongRanks ranks) xs → joined (groups_of ranks xs) ≡ put_all rank_key xs
gathered_is ranks [] rise m = none_gathered ranks
gathered_is ranks (x ∷ xs) rise m = gather_one ranks x xs rise m.0 ∙ ap (put rank_key x) (gathered_is ranks xs rise m.1)

-- and their ranks tell their tags
pub all_told : (ranks : List ℕ) (xs : List RankedSibling) → IsRising ranks → AllByRecursion (IsAmongRanks ranks) xs → AllByRecursion IsTold xs
all_told ranks xs rise m = all_weaker (IsAmongRanks ranks) IsTold xs (λ x k. told ranks x rise k) m
  where
    told : (ranks : List ℕ) (x : RankedSibling) → IsRising ranks → IsAmongRanks ranks x → IsTold x
    told [] x rise k = absurd k
    told (r ∷ ranks) x rise (inl e) = omega (arith, rise.0, e)
    told (r ∷ ranks) x rise (inr k) = told ranks x rise.2 k

-- One sibling more.

above_at : (n : ℕ) (ranks : List ℕ) (at : ℕ) → AllByRecursion (λ next. n < next) ranks → at < length ranks → n < slice_index_or ranks at 0
above_at n [] at h k = absurd (omega (arith, k))
above_at n (r ∷ ranks) zero h k = h.0
above_at n (r ∷ ranks) (suc at) h k = above_at n ranks at h.1 (omega (arith, k))

pub among_at : (ranks : List ℕ) (at : ℕ) (x : RankedSibling) → at < length ranks → slice_index_or ranks at 0 ≡ x.rank → IsAmongRanks ranks x
among_at [] at x k e = absurd (omega (arith, k))
among_at (r ∷ ranks) zero x k e = inl (sym e)
among_at (r ∷ ranks) (suc at) x k e = inr (among_at ranks at x (omega (arith, k)) e)

filtered_with : (r : ℕ) (x : RankedSibling) (xs : List RankedSibling) → x.rank ≡ r → filter (has_rank r) (xs ++ x ∷ []) ≡ filter (has_rank r) xs ++ x ∷ []
filtered_with r x xs e = let here : (x.rank == r) ≡ true = is_rank r x.rank e in filter-append (has_rank r) xs (x ∷ []) ∙ ap (λ b. filter (has_rank r) xs ++ cond b (x ∷ []) []) here

filtered_without : (r : ℕ) (x : RankedSibling) (xs : List RankedSibling) → (x.rank == r) ≡ false → filter (has_rank r) (xs ++ x ∷ []) ≡ filter (has_rank r) xs
filtered_without r x xs e = filter-append (has_rank r) xs (x ∷ []) ∙ ap (λ b. filter (has_rank r) xs ++ cond b (x ∷ []) []) e ∙ append-nil (filter (has_rank r) xs)

unplaced : (ranks : List ℕ) (x : RankedSibling) (xs : List RankedSibling) → AllByRecursion (λ next. x.rank < next) ranks → groups_of ranks (xs ++ x ∷ []) ≡ groups_of ranks xs
unplaced [] x xs h = refl
unplaced (r ∷ ranks) x xs h = λ i. filtered_without r x xs (is_below r x.rank h.0) i ∷ unplaced ranks x xs h.1 i

-- a sibling behind the others stands at the end of the group of its rank
pub place_one : (ranks : List ℕ) (at : ℕ) (x : RankedSibling) (xs : List RankedSibling) → IsRising ranks → at < length ranks → slice_index_or ranks at 0 ≡ x.rank → groups_of ranks (xs ++ x ∷ []) ≡ placed (groups_of ranks xs) at x
place_one [] at x xs rise k e = absurd (omega (arith, k))
place_one (r ∷ ranks) zero x xs rise k e =
    let rest = subst (λ n. AllByRecursion (λ next. n < next) ranks) e rise.1 in
    λ i. filtered_with r x xs (sym e) i ∷ unplaced ranks x xs rest i
place_one (r ∷ ranks) (suc at) x xs rise k e =
    let higher : r < x.rank = omega (arith, above_at r ranks at rise.1 (omega (arith, k)), e) in
    λ i. filtered_without r x xs (is_above r x.rank higher) i ∷ place_one ranks at x xs rise.2 (omega (arith, k)) e i

pub members_placed : (groups : List (Vec RankedSibling Global)) (at : ℕ) (other new : Vec RankedSibling Global) (x : RankedSibling) → at < length groups → new.items ≡ (slice_index_or groups at other).items ++ x ∷ []
    → members (slice_set groups at new) ≡ placed (members groups) at x
members_placed [] at other new x k h = absurd (omega (arith, k))
members_placed (g ∷ groups) zero other new x k h = ap (λ l. l ∷ members groups) h
members_placed (g ∷ groups) (suc at) other new x k h = ap (λ l. g.items ∷ l) (members_placed groups at other new x (omega (arith, k)) h)

pub count_groups : (ranks : List ℕ) (xs : List RankedSibling) → length (groups_of ranks xs) ≡ length ranks
count_groups [] xs = refl
count_groups (r ∷ ranks) xs = ap suc (count_groups ranks xs)

pub count_members : (groups : List (Vec RankedSibling Global)) → length (members groups) ≡ length groups
count_members [] = refl
count_members (g ∷ groups) = ap suc (count_members groups)

-- Making groups.

pub numbers_with : (P : ℕ → Type 0) (ns : List ℕ) (n : ℕ) → AllByRecursion P ns → P n → AllByRecursion P (ns ++ n ∷ [])
numbers_with P [] n h p = (p, tt)
numbers_with P (m ∷ ns) n h p = (h.0, numbers_with P ns n h.1 p)

pub rising_more : (ranks : List ℕ) (least rank : ℕ) → IsRising ranks → AllByRecursion (λ r. r < least) ranks → least ≤ rank → rank % 256 ≤ 8 → IsRising (ranks ++ rank ∷ [])
rising_more [] least rank rise low h short = (short, tt, tt)
rising_more (r ∷ ranks) least rank rise low h short =
    (rise.0, numbers_with (λ next. r < next) ranks rank rise.1 (omega (arith, low.0, h)), rising_more ranks least rank rise.2 low.1 h short)

pub below_more : (ranks : List ℕ) (least rank : ℕ) → AllByRecursion (λ r. r < least) ranks → least ≤ rank → AllByRecursion (λ r. r < rank + 1) (ranks ++ rank ∷ [])
below_more [] least rank low h = (omega arith, tt)
below_more (r ∷ ranks) least rank low h = (omega (arith, low.0, h), below_more ranks least rank low.1 h)

pub empty_more : (ranks : List ℕ) (rank : ℕ) (groups : List (Vec RankedSibling Global)) (group : Vec RankedSibling Global) → members groups ≡ groups_of ranks [] → group.items ≡ [] → members (groups ++ group ∷ []) ≡ groups_of (ranks ++ rank ∷ []) []
empty_more ranks rank groups group h e = members_with groups group ∙ (λ i. h i ++ e i ∷ []) ∙ sym (groups_with ranks rank)
  where
    members_with : (groups : List (Vec RankedSibling Global)) (group : Vec RankedSibling Global) → members (groups ++ group ∷ []) ≡ members groups ++ group.items ∷ []
    members_with [] group = refl
    members_with (g ∷ groups) group = ap (λ l. g.items ∷ l) (members_with groups group)

    groups_with : (ranks : List ℕ) (rank : ℕ) → groups_of (ranks ++ rank ∷ []) [] ≡ groups_of ranks [] ++ [] ∷ []
    groups_with [] rank = refl
    groups_with (r ∷ ranks) rank = ap (λ l. [] ∷ l) (groups_with ranks rank)

-- Writing groups.

pub joined_next : (groups : List (Vec RankedSibling Global)) (at : ℕ) (group : Vec RankedSibling Global) → at < length groups → group ≡ slice_index_or groups at group
    → joined (members (drop at groups)) ≡ group.items ++ joined (members (drop (at + 1) groups))
joined_next groups at group k e =
    let next : suc at ≡ at + 1 = omega arith in
    ap (λ (gs : List (Vec RankedSibling Global)). joined (members gs)) (drop-cons groups at group k)
    ∙ (λ i. (sym e i).items ++ joined (members (drop (next i) groups)))

-- a group is written behind what was written
pub group_written : (at k : ℕ) (xs ys rest all : List RankedSibling) → at ≤ length xs → take at xs ++ (ys ++ rest) ≡ all → take (at + length ys) (put_mid at k xs ys) ++ rest ≡ all
group_written at k xs ys rest all h e =
    ap (λ l. l ++ rest) (take-put_mid at k xs ys (at + length ys) refl h) ∙ append_assoc (take at xs) ys rest ∙ e
