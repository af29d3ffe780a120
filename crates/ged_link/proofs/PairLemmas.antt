-- The links of a document as pairs of places; where each is answered, no link goes in one direction only.
use Rattle.std.proofs.Common.{◌≡◌, ℕ, ◌+◌, ◌≤◌, Bool, true, false, ◌&&◌, ◌||◌, nat_eq, [], ◌∷◌, ◌++◌, List, Option, Some, None, length, slice_get, inl, inr, refl, sym, ap, ◌∙◌, arith, zero, suc, get_or, Result, Ok, Err, ◌<◌, take, drop}
use Rattle.std.specs.Str.{bytes_eq}
use Rattle.std.proofs.lemmas.List.{drop_all, take_all, append-nil}
use Rattle.std.proofs.lemmas.Bool.{cases_lt}
use Rattle.std.proofs.lemmas.Bool.Decides.{nat_tests}
use Rattle.std.proofs.lemmas.Option.{slice_get_within, slice_get-get_or, get_or_from_slice_get}
use Rattle.std.proofs.lemmas.Cmp.{nat_cmp_total, on_total, then_total, tied_itself}
use Rattle.std.proofs.lemmas.List.Sorted.{searchable_from_sorted}
use Rattle.std.specs.Cmp.{IsTotalOrder}
use Rattle.std.specs.Result.{is_ok}
use Rattle.std.specs.List.Sorted.{IsBinarySearchResult, IsSearchInRange, IsPartitionPoint}
use Rattle.std.specs.declared.cmp.Ordering.TheVariants.{Less, Equal, Greater}
use Rattle.ged_line.specs.Bytes.{Bytes}
use Rattle.ged_tree.specs.Trees.{Structure, Trees, none, tree, trees_count}
use Rattle.ged_tree.specs.Places.{structure_at}
use Rattle.ged_link.specs.declared.pairs.Role.{Role}
use Rattle.ged_link.specs.declared.pairs.Role.TheVariants.{Partner, Child}
use Rattle.ged_link.specs.declared.link_lists.LinkLists.{LinkLists}
use Rattle.ged_link.specs.inner.LinkWalks.{pair_eq, role_under, target, has_link_to, has_pair, other_tag, is_unanswered, is_one_way_for, is_one_way, one_way_below, one_way_places}
use Rattle.ged_link.specs.inner.PairSets.{is_listed, pair_cmp, IsInOrder, AreAnsweredBefore, AreLinks, AreAnswered}

or_true : (b : Bool) → b || true ≡ true
or_true true = refl
or_true false = refl

and_false : (b : Bool) → b && false ≡ false
and_false true = refl
and_false false = refl

same_number : (n : ℕ) → nat_eq n n ≡ true
same_number n = grind (arith, nat_tests)

-- ---- links in a list

or_swapped : (a b c : Bool) → (a || (b || c)) ≡ (b || (a || c))
or_swapped true true c = refl
or_swapped true false c = refl
or_swapped false b c = refl

or_within : (a b c : Bool) → ((a || b) || c) ≡ (a || (b || c))
or_within true b c = refl
or_within false b c = refl

listed_more : (links : List (ℕ × ℕ)) (link pair : ℕ × ℕ) → is_listed (links ++ link ∷ []) pair ≡ (pair_eq pair link || is_listed links pair)
listed_more [] link pair = refl
listed_more (other ∷ links) link pair = rw (listed_more links link pair) (or_swapped (pair_eq pair other) (pair_eq pair link) (is_listed links pair))

pub linked_more : (pairs wide : List (ℕ × ℕ)) (link pair : ℕ × ℕ) → (is_listed (pairs ++ link ∷ []) pair || is_listed wide pair) ≡ (pair_eq pair link || (is_listed pairs pair || is_listed wide pair))
linked_more pairs wide link pair = rw (listed_more pairs link pair) (or_within (pair_eq pair link) (is_listed pairs pair) (is_listed wide pair))

pub linked_wide : (pairs wide : List (ℕ × ℕ)) (link pair : ℕ × ℕ) → (is_listed pairs pair || is_listed (wide ++ link ∷ []) pair) ≡ (pair_eq pair link || (is_listed pairs pair || is_listed wide pair))
linked_wide pairs wide link pair = rw (listed_more wide link pair) (or_swapped (is_listed pairs pair) (pair_eq pair link) (is_listed wide pair))

same_pair : (x y : ℕ) → pair_eq (x, y) (x, y) ≡ true
same_pair x y = rw (same_number x, same_number y) refl

pub listed_at : (links : List (ℕ × ℕ)) (i : ℕ) (x y : ℕ) → slice_get links i ≡ Some (x, y) → is_listed links (x, y) ≡ true
listed_at [] i x y e = cc
listed_at (link ∷ links) zero x y e = let f : link ≡ (x, y) = cc in rw (f, same_pair x y) refl
listed_at (link ∷ links) (suc i) x y e = rw (listed_at links i x y e) (or_true (pair_eq (x, y) link))

parts_same : (x y : ℕ) (link : ℕ × ℕ) → pair_eq (x, y) link ≡ true → link ≡ (x, y)
parts_same x y (p, q) e =
    let f : p ≡ x = grind (arith, nat_tests, e) in
    let g : q ≡ y = grind (arith, nat_tests, e) in
    rw (f, g) refl

found_here : (links : List (ℕ × ℕ)) (x y : ℕ) (link : ℕ × ℕ) (b : Bool) → pair_eq (x, y) link ≡ b → (b ≡ false → (i : ℕ) × (slice_get links i ≡ Some (x, y))) → (i : ℕ) × (slice_get (link ∷ links) i ≡ Some (x, y))
found_here links x y link true e rest = (0, ap (λ (pair : ℕ × ℕ). Some pair) (parts_same x y link e))
found_here links x y link false e rest = let k = rest refl in (suc k.0, k.1)

pub place_of_listed : (links : List (ℕ × ℕ)) (x y : ℕ) → is_listed links (x, y) ≡ true → (i : ℕ) × (slice_get links i ≡ Some (x, y))
place_of_listed [] x y e = cc
place_of_listed (link ∷ links) x y e = found_here links x y link (pair_eq (x, y) link) refl (λ no. place_of_listed links x y (ap (λ b. b || is_listed links (x, y)) (sym no) ∙ e))

-- ---- links in order

-- a vector whose items were changed as a slice holds the slice
pub put_back : (xs ys : List (ℕ × ℕ)) (n : ℕ) → length ys ≡ length xs → n ≡ length xs → take n (ys ++ drop (length ys) xs) ≡ ys
put_back xs ys n same all =
    let nothing : drop (length ys) xs ≡ [] = drop_all (length ys) xs (omega (arith, same)) in
    ap (λ rest. take n (ys ++ rest)) nothing ∙ ap (take n) (append-nil ys) ∙ take_all n ys (omega (arith, same, all))

pair_total : IsTotalOrder pair_cmp
pair_total = then_total (on_total (λ (z : ℕ × ℕ). z.0) nat_cmp_total) (on_total (λ (z : ℕ × ℕ). z.1) nat_cmp_total)

tied_pair : (a b : ℕ × ℕ) → pair_cmp a b ≡ Equal → a ≡ b
tied_pair (p, q) (x, y) e =
    let f : p ≡ x = grind (arith, nat_tests, e) in
    let g : q ≡ y = grind (arith, nat_tests, e) in
    rw (f, g) refl

not_listed : (links : List (ℕ × ℕ)) (x y at : ℕ) → IsPartitionPoint (λ z. pair_cmp z (x, y) ≡ Less) (λ z. pair_cmp z (x, y) ≡ Greater) links at → (b : Bool) → is_listed links (x, y) ≡ b → b ≡ false
not_listed links x y at parted false e = refl
not_listed links x y at parted true e =
    let k = place_of_listed links x y e in
    let within : k.0 < length links = slice_get_within links k.0 (x, y) k.1 in
    let here : get_or links k.0 (x, y) ≡ (x, y) = get_or_from_slice_get links k.0 (x, y) (x, y) k.1 in
    let tied : pair_cmp (get_or links k.0 (x, y)) (x, y) ≡ Equal = ap (λ z. pair_cmp z (x, y)) here ∙ tied_itself pair_total (x, y) in
    absurd (elim (cases_lt k.0 at) [
      | inl below ↦ (let h = parted.0 k.0 (x, y) (omega arith) below in let c : Equal ≡ Less = sym tied ∙ h in cc)
      | inr past ↦ (let h = parted.1 k.0 (x, y) (omega (arith, past)) within in let c : Equal ≡ Greater = sym tied ∙ h in cc)
    ])

pub searched_pair : (links : List (ℕ × ℕ)) (x y : ℕ) (r : Result ℕ ℕ) → IsInOrder links → IsSearchInRange r (length links) → IsBinarySearchResult (λ z. pair_cmp z (x, y)) links r → is_ok r ≡ is_listed links (x, y)
searched_pair links x y (Ok at) ordered within found =
    sym (listed_at links at x y (slice_get-get_or links at (x, y) within ∙ ap (λ (pair : ℕ × ℕ). Some pair) (tied_pair (get_or links at (x, y)) (x, y) (found (x, y)))))
searched_pair links x y (Err at) ordered within parted =
    sym (not_listed links x y at (parted (searchable_from_sorted pair_total (λ z. z) links (x, y) ordered)) (is_listed links (x, y)) refl)

-- ---- links that are answered

pub all_listed : (links : List (ℕ × ℕ)) (index : ℕ) → length links ≤ index → AreAnsweredBefore links index → (x y : ℕ) → is_listed links (x, y) ≡ true → is_listed links (y, x) ≡ true
all_listed links index all before x y e =
    let at = place_of_listed links x y e in
    before at.0 x y (omega (arith, all, slice_get_within links at.0 (x, y) at.1)) at.1

-- ---- no link in one direction only

link_first : (find : Bytes → Option ℕ) (role : Role) (at : Bytes) (other : ℕ) (s : Structure) (b n : Trees) → role_under at s.tag ≡ Some role → target find s.payload ≡ Some other
    → has_link_to find role at other (tree s b n) ≡ true
link_first find Partner at other s b n e h = rw (e, h, same_number other) refl
link_first find Child at other s b n e h = rw (e, h, same_number other) refl

link_next : (find : Bytes → Option ℕ) (role : Role) (at : Bytes) (other : ℕ) (s : Structure) (b n : Trees) → has_link_to find role at other n ≡ true → has_link_to find role at other (tree s b n) ≡ true
link_next find role at other s b n e = rw e (or_true _)

pair_first : (find : Bytes → Option ℕ) (role : Role) (k other : ℕ) (s : Structure) (b n : Trees) → has_link_to find role s.tag other b ≡ true → has_pair find role k (tree s b n) (k, other) ≡ true
pair_first find role k other s b n e = rw (e, same_number k) refl

pair_next : (find : Bytes → Option ℕ) (role : Role) (k : ℕ) (pair : ℕ × ℕ) (s : Structure) (b n : Trees) → has_pair find role (k + 1 + trees_count b) n pair ≡ true → has_pair find role k (tree s b n) pair ≡ true
pair_next find role k pair s b n e = rw e (or_true _)

module _ (find : Bytes → Option ℕ) (d : Trees) (answered : (role : Role) (x y : ℕ) → has_pair find role 0 d (x, y) ≡ true → has_pair find role 0 d (y, x) ≡ true) where
  all_answered : (role : Role) (at : Bytes) (from : ℕ) (o : Option ℕ) → ((other : ℕ) → o ≡ Some other → has_pair find role 0 d (from, other) ≡ true) → is_unanswered find d role at from o ≡ false
  all_answered role at from None links = refl
  all_answered role at from (Some other) links = rw (answered role from other (links other refl)) (and_false (bytes_eq (structure_at d other).tag (other_tag at)))

  not_one_way : (at : Bytes) (from : ℕ) (s : Structure) (r : Option Role) → ((role : Role) (other : ℕ) → r ≡ Some role → target find s.payload ≡ Some other → has_pair find role 0 d (from, other) ≡ true)
      → is_one_way_for find d r at from s ≡ false
  not_one_way at from s None links = refl
  not_one_way at from s (Some role) links = all_answered role at from (target find s.payload) (λ other e. links role other refl e)

  none_below : (at : Bytes) (from place : ℕ) (t : Trees) → ((role : Role) (other : ℕ) → has_link_to find role at other t ≡ true → has_pair find role 0 d (from, other) ≡ true) → one_way_below find d at from place t ≡ []
  none_below at from place none links = refl
  none_below at from place (tree s b n) links =
      let here : is_one_way find d at from s ≡ false = not_one_way at from s (role_under at s.tag) (λ role other e h. links role other (link_first find role at other s b n e h)) in
      let rest = none_below at from (place + 1 + trees_count b) n (λ role other e. links role other (link_next find role at other s b n e)) in
      rw (here, rest) refl

  none_of_records : (place : ℕ) (t : Trees) → ((role : Role) (pair : ℕ × ℕ) → has_pair find role place t pair ≡ true → has_pair find role 0 d pair ≡ true) → one_way_places find d place t ≡ []
  none_of_records place none links = refl
  none_of_records place (tree s b n) links =
      let here = none_below s.tag place (place + 1) b (λ role other e. links role (place, other) (pair_first find role place other s b n e)) in
      let rest = none_of_records (place + 1 + trees_count b) n (λ role pair e. links role pair (pair_next find role place pair s b n e)) in
      rw (here, rest) refl

pub no_one_way : (find : Bytes → Option ℕ) (d : Trees) (lists : LinkLists) → AreLinks find d lists → AreAnswered lists → one_way_places find d 0 d ≡ []
no_one_way find d lists are answered =
    none_of_records find d (λ role x y e. sym (are role (y, x)) ∙ answered role x y (are role (x, y) ∙ e)) 0 d (λ role pair e. e)
