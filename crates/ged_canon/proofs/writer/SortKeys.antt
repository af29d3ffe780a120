-- Siblings put in the order of their keys are siblings put in the order of their tags.
use Rattle.std.proofs.Common.{◌≡◌, ℕ, suc, ◌-◌, ◌<◌, ◌≤◌, ◌==◌, Bool, true, false, cond, List, [], ◌∷◌, ◌++◌, length, refl, sym, ap, ◌∙◌, subst, arith}
use Rattle.std.specs.Prelude.{nat_le}
use Rattle.std.specs.List.{AllByRecursion}
use Rattle.std.specs.List.Sorted.{IsPermutation}
use Rattle.std.specs.Ordering.{is_gt, nat_cmp, ordering_then}
use Rattle.std.specs.Cmp.Lexicographic.{slice_cmp}
use Rattle.std.specs.declared.cmp.Ordering.{Ordering}
use Rattle.std.specs.declared.cmp.Ordering.TheVariants.{Less, Equal, Greater}
use Rattle.std.proofs.lemmas.Bool.Decides.{nat_tests}
use Rattle.std.proofs.lemmas.List.Sorted.{IsPermutation-refl, IsPermutation-cons, IsPermutation-middle, IsPermutation-trans}
use Rattle.ged_line.specs.Bytes.{Bytes}
use Rattle.ged_line.specs.Names.{tag_order}
use Rattle.ged_tree.specs.Trees.{Trees, none, tree, trees_count}
use Rattle.ged_tree.specs.Places.{structure_at, below_at, trees_from, first_structure}
use Rattle.ged_schema.specs.Tables.{context_below}
use Rattle.ged_canon.specs.declared.writer.rank.RankedSibling.{RankedSibling}
use Rattle.ged_canon.specs.declared.writer.rank.TaggedSibling.{TaggedSibling}
use Rattle.ged_canon.specs.inner.Ranks.{rest_of_tag}
use Rattle.ged_canon.specs.inner.Siblings.{StandsRanked, AreGrouped, HasOwnTag, untagged, own_tag, IsTold, rank_key, sibling_key, sibling_trees}
use Rattle.ged_canon.specs.inner.Working.{falls, sorted, used_structure, brief_structure}
use Rattle.ged_canon.proofs.writer.RankOrder.{by_ranks, by_keys}
use Rattle.ged_canon.proofs.writer.SiblingTrees.{all_permuted, siblings_listed}
use Rattle.ged_canon.proofs.writer.StableSort.{put, put_all, all_put}

-- Behind the last place there is no tag.

nothing_from : (d : Trees) (place : ℕ) → trees_count d ≤ place → trees_from d place ≡ none
nothing_from none place h = refl
nothing_from (tree s below next) place h =
    let first : (place == 0) ≡ false = grind (arith, nat_tests) in
    let second : nat_le place (trees_count below) ≡ false = grind (arith, nat_tests) in
    rw (first, second) (nothing_from next (place - 1 - trees_count below) (omega arith))

pub no_tag : (d : Trees) (place : ℕ) → trees_count d ≤ place → (structure_at d place).tag ≡ []
unfolding Rattle.ged_tree.specs.Places.structure_at
no_tag d place h = ap (λ t. (first_structure t).tag) (nothing_from d place h)

-- Lists.

pub all_weaker : (P Q : RankedSibling → Type 0) (xs : List RankedSibling) → ((x : RankedSibling) → P x → Q x) → AllByRecursion P xs → AllByRecursion Q xs
all_weaker P Q [] f h = tt
all_weaker P Q (x ∷ xs) f h = (f x h.0, all_weaker P Q xs f h.1)

module _ (key : RankedSibling → Bytes) where
  put_permutes : (x : RankedSibling) (xs : List RankedSibling) → IsPermutation (x ∷ xs) (put key x xs)
  put_permutes x [] = IsPermutation-refl (x ∷ [])
  put_permutes x (y ∷ ys) = by (falls (key x) (key y)) (put_permutes x ys)
    where
      by : (t : Bool) → IsPermutation (x ∷ ys) (put key x ys) → IsPermutation (x ∷ (y ∷ ys)) (cond t (y ∷ put key x ys) (x ∷ (y ∷ ys)))
      by true h =
          IsPermutation-trans (x ∷ (y ∷ ys)) (y ∷ (x ∷ ys)) (y ∷ put key x ys)
          (IsPermutation-middle (x ∷ []) y ys)
          (IsPermutation-cons y (x ∷ ys) (put key x ys) h)
      by false h = IsPermutation-refl (x ∷ (y ∷ ys))

  pub all_permutes : (xs : List RankedSibling) → IsPermutation xs (put_all key xs)
  all_permutes [] = IsPermutation-refl []
  all_permutes (x ∷ xs) = IsPermutation-trans (x ∷ xs) (x ∷ put_all key xs) (put key x (put_all key xs)) (IsPermutation-cons x xs (put_all key xs) (all_permutes xs)) (put_permutes x (put_all key xs))

module _ (key : RankedSibling → Bytes) where
  put_same : (other : RankedSibling → Bytes) (x : RankedSibling) (ys : List RankedSibling) → AllByRecursion (λ y. falls (key x) (key y) ≡ falls (other x) (other y)) ys → put key x ys ≡ put other x ys
  put_same other x [] h = refl
  put_same other x (y ∷ ys) h = λ i. cond (h.0 i) (y ∷ put_same other x ys h.1 i) (x ∷ (y ∷ ys))

  -- where two keys let siblings fall to one another alike, they give one order
  pub one_order : (other : RankedSibling → Bytes) (P : RankedSibling → Type 0) → ((x y : RankedSibling) → P x → P y → falls (key x) (key y) ≡ falls (other x) (other y))
      → (xs : List RankedSibling) → AllByRecursion P xs → put_all key xs ≡ put_all other xs
  one_order other P same [] h = refl
  one_order other P same (x ∷ xs) h =
      let rest = put_all other xs in
      ap (put key x) (one_order other P same xs h.1)
      ∙ put_same other x rest (all_weaker P (λ y. falls (key x) (key y) ≡ falls (other x) (other y)) rest (λ y t. same x y h.0 t) (all_permuted P xs rest (all_permutes other xs) h.1))

-- Ranks.

not_gt : (n m : ℕ) → n ≤ m → is_gt (nat_cmp n m) ≡ false
not_gt n m h = grind (arith, nat_tests)

gt : (n m : ℕ) → m < n → is_gt (nat_cmp n m) ≡ true
gt n m h = grind (arith, nat_tests)

then_equal : (o : Ordering) → ordering_then o Equal ≡ o
then_equal Less = refl
then_equal Equal = refl
then_equal Greater = refl

pub order_of_ranks : (x y : RankedSibling) → tag_order (rank_key x) (rank_key y) ≡ nat_cmp x.rank y.rank
order_of_ranks x y = then_equal (nat_cmp x.rank y.rank)

-- a sibling does not fall to one whose rank is as high
pub stays : (x y : RankedSibling) → x.rank ≤ y.rank → falls (rank_key x) (rank_key y) ≡ false
unfolding Rattle.ged_canon.specs.inner.Working.falls
stays x y h = ap is_gt (order_of_ranks x y) ∙ not_gt x.rank y.rank h

pub falls_below : (x y : RankedSibling) → y.rank < x.rank → falls (rank_key x) (rank_key y) ≡ true
unfolding Rattle.ged_canon.specs.inner.Working.falls
falls_below x y h = ap is_gt (order_of_ranks x y) ∙ gt x.rank y.rank h

-- Keys and tags.

module _ (d : Trees) where
  told_alike : (x y : RankedSibling) → StandsRanked d x × IsTold x → StandsRanked d y × IsTold y → falls (rank_key x) (rank_key y) ≡ falls (own_tag d x) (own_tag d y)
  unfolding Rattle.ged_canon.specs.inner.Working.falls
  told_alike x y (s, told) (t, _) = ap is_gt
      (order_of_ranks x y
      ∙ (λ i. nat_cmp (s.ranked i) (t.ranked i))
      ∙ by_ranks (own_tag d x) (own_tag d y) s.bytes t.bytes (λ e. omega (arith, told, s.ranked)))

  -- siblings whose ranks tell their tags
  pub ranked_is : (xs : List RankedSibling) → AllByRecursion (StandsRanked d) xs → AllByRecursion IsTold xs → put_all rank_key xs ≡ put_all (own_tag d) xs
  ranked_is xs h k = one_order rank_key (own_tag d) (λ x. StandsRanked d x × IsTold x) told_alike xs (all_both xs h k)
    where
      all_both : (xs : List RankedSibling) → AllByRecursion (StandsRanked d) xs → AllByRecursion IsTold xs → AllByRecursion (λ x. StandsRanked d x × IsTold x) xs
      all_both [] h k = tt
      all_both (x ∷ xs) h k = ((h.0, k.0), all_both xs h.1 k.1)

  alike : (x y : RankedSibling) → StandsRanked d x → StandsRanked d y → falls (sibling_key d x) (sibling_key d y) ≡ falls (own_tag d x) (own_tag d y)
  unfolding Rattle.ged_canon.specs.inner.Working.falls
  alike x y s t = ap is_gt
      ((λ i. ordering_then (nat_cmp (s.ranked i) (t.ranked i)) (slice_cmp nat_cmp (rest_of_tag (s.ranked i) (own_tag d x)) (rest_of_tag (t.ranked i) (own_tag d y))))
      ∙ by_keys (own_tag d x) (own_tag d y) s.bytes t.bytes)

  -- any siblings
  pub keyed_is : (xs : List RankedSibling) → AllByRecursion (StandsRanked d) xs → put_all (sibling_key d) xs ≡ put_all (own_tag d) xs
  keyed_is xs h = one_order (sibling_key d) (own_tag d) (StandsRanked d) alike xs h

  -- siblings with their tags

  abbrev text : TaggedSibling → Bytes
  text x = x.tag.now

  still_tagged : (x : TaggedSibling) (xs : List TaggedSibling) → HasOwnTag d x → AllByRecursion (HasOwnTag d) xs → AllByRecursion (HasOwnTag d) (put text x xs)
  still_tagged x [] h k = (h, tt)
  still_tagged x (y ∷ ys) h k = by (falls (text x) (text y)) (still_tagged x ys h k.1)
    where
      by : (t : Bool) → AllByRecursion (HasOwnTag d) (put text x ys) → AllByRecursion (HasOwnTag d) (cond t (y ∷ put text x ys) (x ∷ (y ∷ ys)))
      by true more = (k.0, more)
      by false more = (h, k)

  all_tagged : (xs : List TaggedSibling) → AllByRecursion (HasOwnTag d) xs → AllByRecursion (HasOwnTag d) (put_all text xs)
  all_tagged [] h = tt
  all_tagged (x ∷ xs) h = still_tagged x (put_all text xs) h.0 (all_tagged xs h.1)

  put_untagged : (x : TaggedSibling) (xs : List TaggedSibling) → HasOwnTag d x → AllByRecursion (HasOwnTag d) xs → untagged (put text x xs) ≡ put (own_tag d) x.sibling (untagged xs)
  put_untagged x [] h k = refl
  put_untagged x (y ∷ ys) h k =
      (λ i. untagged (cond (falls (h i) (k.0 i)) (y ∷ put text x ys) (x ∷ (y ∷ ys))))
      ∙ by (falls (own_tag d x.sibling) (own_tag d y.sibling)) (put_untagged x ys h k.1)
    where
      by : (t : Bool) → untagged (put text x ys) ≡ put (own_tag d) x.sibling (untagged ys)
          → untagged (cond t (y ∷ put text x ys) (x ∷ (y ∷ ys))) ≡ cond t (y.sibling ∷ put (own_tag d) x.sibling (untagged ys)) (x.sibling ∷ (y.sibling ∷ untagged ys))
      by true more = ap (λ l. y.sibling ∷ l) more
      by false more = refl

  -- put in the order of these tags, they stand in that of their own
  pub tagged_is : (xs : List TaggedSibling) → AllByRecursion (HasOwnTag d) xs → untagged (put_all text xs) ≡ put_all (own_tag d) (untagged xs)
  tagged_is [] h = refl
  tagged_is (x ∷ xs) h = put_untagged x (put_all text xs) h.0 (all_tagged xs h.1) ∙ ap (put (own_tag d) x.sibling) (tagged_is xs h.1)

pub untagged_next : (before after : List TaggedSibling) (last : TaggedSibling) (xs : List RankedSibling) → after ≡ before ++ last ∷ [] → untagged before ≡ xs → untagged after ≡ xs ++ last.sibling ∷ []
untagged_next before after last xs e f = ap untagged e ∙ more before ∙ ap (λ l. l ++ last.sibling ∷ []) f
  where
    more : (ys : List TaggedSibling) → untagged (ys ++ last ∷ []) ≡ untagged ys ++ last.sibling ∷ []
    more [] = refl
    more (y ∷ ys) = ap (λ l. y.sibling ∷ l) (more ys)

pub tagged_next : (d : Trees) (before after : List TaggedSibling) (last : TaggedSibling) → after ≡ before ++ last ∷ [] → AllByRecursion (HasOwnTag d) before → HasOwnTag d last → AllByRecursion (HasOwnTag d) after
tagged_next d before after last e h k = subst (λ (l : List TaggedSibling). AllByRecursion (HasOwnTag d) l) (sym e) (more before h)
  where
    more : (ys : List TaggedSibling) → AllByRecursion (HasOwnTag d) ys → AllByRecursion (HasOwnTag d) (ys ++ last ∷ [])
    more [] h = (k, tt)
    more (y ∷ ys) h = (h.0, more ys h.1)

pub length_untagged : (xs : List TaggedSibling) → length (untagged xs) ≡ length xs
length_untagged [] = refl
length_untagged (x ∷ xs) = ap suc (length_untagged xs)

-- siblings put in the order of their tags, as trees
pub put_grouped : (d : Trees) (xs : List RankedSibling) → AreGrouped d xs (put_all (own_tag d) xs)
put_grouped d xs = λ used edition context.
    all_put (λ (x : RankedSibling). brief_structure edition context (used_structure used (structure_at d x.place))) (λ x. sorted edition (context_below context (own_tag d x)) (below_at d x.place)) (sibling_trees used edition context d)
    (siblings_listed used edition context d) xs
