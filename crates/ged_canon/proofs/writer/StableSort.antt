-- What std's stable sort by tag leaves, as trees: the trees put in one at a time.
use Rattle.std.proofs.Common.{◌≡◌, ◌≢◌, suc, ◌+◌, zero-le, Bool, true, false, cond, not, ◌&&◌, List, [], ◌∷◌, map, filter, refl, sym, ap, ◌∙◌, subst, ◌⊎◌, inl, inr, ⊎_elim, arith}
use Rattle.std.specs.List.Sorted.{IsSortedBy, IsStableBy, ties}
use Rattle.std.specs.Ordering.{is_lt, ordering_reverse}
use Rattle.std.specs.declared.cmp.Ordering.{Ordering}
use Rattle.std.specs.declared.cmp.Ordering.TheVariants.{Less, Equal, Greater}
use Rattle.std.proofs.lemmas.Cmp.{tied_itself}
use Rattle.std.proofs.lemmas.Bool.{true≢false, cases_Bool}
use Rattle.ged_line.specs.Bytes.{Bytes}
use Rattle.ged_line.specs.Names.{tag_order}
use Rattle.ged_tree.specs.Trees.{Structure, Trees, none, tree}
use Rattle.ged_schema.specs.declared.context.Context.{Context}
use Rattle.ged_schema.specs.Tables.{context_below}
use Rattle.ged_canon.specs.declared.edition.Edition.{Edition}
use Rattle.ged_canon.specs.inner.Orders.{TagsInOrder}
use Rattle.ged_canon.specs.inner.Working.{falls, grouped, brief_structure, sorted, each_sorted}
use Rattle.ged_canon.specs.inner.Working.{put as put_tree}
use Rattle.ged_canon.proofs.theory.Sorting.{between, falls_itself, not_falling, not_greater, after_falling, tags_total, equal_tags}

module _ {A : Type 0} (tag : A → Bytes) where
  -- a, put before the first item whose tag is not smaller
  abbrev pub put : A → List A → List A
  put a [] = a ∷ []
  put a (x ∷ xs) = cond (falls (tag a) (tag x)) (x ∷ put a xs) (a ∷ (x ∷ xs))

module _ {A : Type 0} (tag : A → Bytes) where
  put_after : (b : Bytes) (a : A) (xs : List A) → tag_order b (tag a) ≢ Greater → TagsInOrder (b ∷ map tag xs) → TagsInOrder (b ∷ map tag (put tag a xs))
  put_after b a [] h o = (h, tt)
  put_after b a (x ∷ xs) h o = by (falls (tag a) (tag x)) refl (put_after (tag x) a xs)
    where
      by : (t : Bool) → falls (tag a) (tag x) ≡ t → (tag_order (tag x) (tag a) ≢ Greater → TagsInOrder (tag x ∷ map tag xs) → TagsInOrder (tag x ∷ map tag (put tag a xs))) → TagsInOrder (b ∷ map tag (cond t (x ∷ put tag a xs) (a ∷ (x ∷ xs))))
      by true e f = (o.0, f (after_falling (tag a) (tag x) e) o.1)
      by false e f = (h, (not_greater (tag a) (tag x) e, o.1))

  pub put_in_order : (a : A) (xs : List A) → TagsInOrder (map tag xs) → TagsInOrder (map tag (put tag a xs))
  put_in_order a [] o = tt
  put_in_order a (x ∷ xs) o = by (falls (tag a) (tag x)) refl
    where
      by : (t : Bool) → falls (tag a) (tag x) ≡ t → TagsInOrder (map tag (cond t (x ∷ put tag a xs) (a ∷ (x ∷ xs))))
      by true e = put_after (tag x) a xs (after_falling (tag a) (tag x) e) o
      by false e = (not_greater (tag a) (tag x) e, o)

level : (a b : Bytes) → falls a b ≡ false → falls b a ≡ false → a ≡ b
level a b f g = by (tag_order a b) refl
  where
    by : (o : Ordering) → tag_order a b ≡ o → a ≡ b
    by Less e = absurd (not_greater b a g (tags_total.antisymm b a ∙ ap ordering_reverse e))
    by Equal e = equal_tags a b e
    by Greater e = absurd (not_greater a b f e)

module _ {A : Type 0} (tag : A → Bytes) where
  abbrev pub before : A → A → Bool
  before a b = is_lt (tag_order (tag a) (tag b))

  abbrev pub put_all : List A → List A
  put_all [] = []
  put_all (x ∷ xs) = put tag x (put_all xs)

  same_tag : (x y : A) → ties before x y ≡ true → tag x ≡ tag y
  same_tag x y h = by (tag_order (tag x) (tag y)) refl
    where
      by : (o : Ordering) → tag_order (tag x) (tag y) ≡ o → tag x ≡ tag y
      by Less e = absurd (true≢false (sym h ∙ ap (λ o. not (is_lt o) && not (before y x)) e))
      by Equal e = equal_tags (tag x) (tag y) e
      by Greater e = absurd (true≢false (sym h ∙ ap (λ o. not (is_lt o) && not (before y x)) e ∙ ap (λ o. not (is_lt o)) (tags_total.antisymm (tag y) (tag x) ∙ ap ordering_reverse e)))

  tied : (x y : A) → tag x ≡ tag y → ties before x y ≡ true
  tied x y e =
      let p = ap (λ t. tag_order (tag x) t) (sym e) ∙ tied_itself tags_total (tag x) in
      let q = ap (λ t. tag_order t (tag x)) (sym e) ∙ tied_itself tags_total (tag x) in
      λ i. not (is_lt (p i)) && not (is_lt (q i))

  not_tied : (x y : A) → (tag x ≢ tag y) → ties before x y ≡ false
  not_tied x y ne = ⊎_elim (λ e. absurd (ne (same_tag x y e))) (λ e. e) (cases_Bool (ties before x y))

  -- among what comes after a greater tag none ties
  none_tie : (b : Bytes) (z : A) (ys : List A) → TagsInOrder (b ∷ map tag ys) → falls b (tag z) ≡ true → filter (ties before z) ys ≡ []
  none_tie b z [] o h = refl
  none_tie b z (y ∷ ys) o h =
      let f : falls (tag y) (tag z) ≡ true = ⊎_elim (λ e. e) (λ e. absurd (true≢false (sym (between b (tag y) (tag z) h e) ∙ not_falling b (tag y) o.0))) (cases_Bool (falls (tag y) (tag z))) in
      let n = not_tied z y (λ e. falls_itself (tag y) (tag z) f (sym e)) in
      rw n (none_tie (tag y) z ys o.1 f)

  in_order_rest : (y : A) (ys : List A) → TagsInOrder (map tag (y ∷ ys)) → TagsInOrder (map tag ys)
  in_order_rest y [] o = tt
  in_order_rest y (z ∷ ys) o = o.1

  first_tie : (z : A) (zs : List A) → filter (ties before z) (z ∷ zs) ≡ z ∷ filter (ties before z) zs
  first_tie z zs = let e = tied z z refl in rw e

  nil_cons : (z : A) (zs : List A) → [] ≡ z ∷ zs → ⊥
  nil_cons z zs e = cc

  cons_first : (y z : A) (ys zs : List A) → y ∷ ys ≡ z ∷ zs → y ≡ z
  cons_first y z ys zs e = cc

  cons_rest : (y z : A) (ys zs : List A) → y ∷ ys ≡ z ∷ zs → ys ≡ zs
  cons_rest y z ys zs e = cc

  -- the heads of two lists in order whose ties are alike have one tag
  heads_tie : (y z : A) (ys zs : List A) → TagsInOrder (map tag (y ∷ ys)) → filter (ties before z) (y ∷ ys) ≡ filter (ties before z) (z ∷ zs) → falls (tag y) (tag z) ≡ true → ⊥
  heads_tie y z ys zs o e f =
      let n = not_tied z y (λ p. falls_itself (tag y) (tag z) f (sym p)) in
      let k : filter (ties before z) (y ∷ ys) ≡ [] = rw n (none_tie (tag y) z ys o f) in
      nil_cons z (filter (ties before z) zs) (sym k ∙ e ∙ first_tie z zs)

  unique_rest : (x y z : A) (ys zs : List A) → y ≡ z → filter (ties before x) (y ∷ ys) ≡ filter (ties before x) (z ∷ zs) → filter (ties before x) ys ≡ filter (ties before x) zs
  unique_rest x y z ys zs e h = by (ties before x y) refl (subst (λ w. filter (ties before x) (y ∷ ys) ≡ filter (ties before x) (w ∷ zs)) (sym e) h)
    where
      by : (t : Bool) → ties before x y ≡ t → filter (ties before x) (y ∷ ys) ≡ filter (ties before x) (y ∷ zs) → filter (ties before x) ys ≡ filter (ties before x) zs
      by true k g = cons_rest y y (filter (ties before x) ys) (filter (ties before x) zs) (rw k at g)
      by false k g = rw k at g

  unique : (ys zs : List A) → TagsInOrder (map tag ys) → TagsInOrder (map tag zs) → ((x : A) → filter (ties before x) ys ≡ filter (ties before x) zs) → ys ≡ zs
  unique [] [] o p h = refl
  unique [] (z ∷ zs) o p h = absurd (nil_cons z (filter (ties before z) zs) (h z ∙ first_tie z zs))
  unique (y ∷ ys) [] o p h = absurd (nil_cons y (filter (ties before y) ys) (sym (h y) ∙ first_tie y ys))
  unique (y ∷ ys) (z ∷ zs) o p h =
      let same : tag y ≡ tag z = by (cases_Bool (falls (tag y) (tag z))) (cases_Bool (falls (tag z) (tag y))) in
      let e = ap (λ b. cond b (z ∷ filter (ties before y) zs) (filter (ties before y) zs)) (tied y z same) in
      let k = cons_first y z (filter (ties before y) ys) (filter (ties before y) zs) (sym (first_tie y ys) ∙ h y ∙ e) in
      λ i. k i ∷ unique ys zs (in_order_rest y ys o) (in_order_rest z zs p) (λ x. unique_rest x y z ys zs k (h x)) i
    where
      by : (falls (tag y) (tag z) ≡ true) ⊎ (falls (tag y) (tag z) ≡ false) → (falls (tag z) (tag y) ≡ true) ⊎ (falls (tag z) (tag y) ≡ false) → tag y ≡ tag z
      by (inl f) g = absurd (heads_tie y z ys zs o (h z) f)
      by (inr f) (inl g) = absurd (heads_tie z y zs ys p (sym (h y)) g)
      by (inr f) (inr g) = level (tag y) (tag z) f g

  put_stable : (x a : A) (xs : List A) → filter (ties before x) (put tag a xs) ≡ filter (ties before x) (a ∷ xs)
  put_stable x a [] = refl
  put_stable x a (y ∷ ys) = by (falls (tag a) (tag y)) (ties before x a) (ties before x y) refl refl refl (put_stable x a ys)
    where
      by : (f s t : Bool) → falls (tag a) (tag y) ≡ f → ties before x a ≡ s → ties before x y ≡ t → filter (ties before x) (put tag a ys) ≡ filter (ties before x) (a ∷ ys) → filter (ties before x) (put tag a (y ∷ ys)) ≡ filter (ties before x) (a ∷ (y ∷ ys))
      by false s t p q r h = rw p
      by true true true p q r h = absurd (falls_itself (tag a) (tag y) p (sym (same_tag x a q) ∙ same_tag x y r))
      by true true false p q r h = simp (p, q, r) (rw q at h)
      by true false true p q r h = simp (p, q, r) (ap (λ l. y ∷ l) (rw q at h))
      by true false false p q r h = simp (p, q, r) (rw q at h)

  all_stable : (x : A) (xs : List A) → filter (ties before x) (put_all xs) ≡ filter (ties before x) xs
  all_stable x [] = refl
  all_stable x (y ∷ ys) = put_stable x y (put_all ys) ∙ ap (λ l. cond (ties before x y) (y ∷ l) l) (all_stable x ys)

  all_in_order : (xs : List A) → TagsInOrder (map tag (put_all xs))
  all_in_order [] = tt
  all_in_order (x ∷ xs) = put_in_order tag x (put_all xs) (all_in_order xs)

  not_after : (a b : A) → before b a ≡ false → tag_order (tag a) (tag b) ≢ Greater
  not_after a b h e = true≢false (sym (ap is_lt (tags_total.antisymm (tag b) (tag a) ∙ ap ordering_reverse e)) ∙ h)

  sorted_in_order : (ys : List A) → IsSortedBy before ys → TagsInOrder (map tag ys)
  sorted_in_order [] h = tt
  sorted_in_order (y ∷ []) h = tt
  sorted_in_order (y ∷ (z ∷ ys)) h =
      (not_after y z (h 0 y (zero-le {n = 0}) (omega arith)), sorted_in_order (z ∷ ys) (λ k d p q. let e : suc k + 1 ≡ suc (k + 1) = omega arith in rw e at (h (suc k) d (zero-le {n = suc k}) (omega arith))))

  pub a_stable_sort : (xs ys : List A) → IsSortedBy before ys → IsStableBy before xs ys → ys ≡ put_all xs
  a_stable_sort xs ys h k = unique ys (put_all xs) (sorted_in_order ys h) (all_in_order xs) (λ x. k x ∙ sym (all_stable x xs))

-- As trees.

-- items that are listed as trees, each with its structure and what stands below it
pub record AreListed {A : Type 0} (structure : A → Structure) (below : A → Trees) (trees : List A → Trees) : Type 0 where
  pub nothing : trees [] ≡ none
  pub first : (x : A) (xs : List A) → trees (x ∷ xs) ≡ tree (structure x) (below x) (trees xs)

module _ {A : Type 0} (structure : A → Structure) (below : A → Trees) (trees : List A → Trees) (listed : AreListed structure below trees) where
  abbrev own_tag : A → Bytes
  own_tag a = (structure a).tag

  trees_put : (a : A) (xs : List A) → trees (put own_tag a xs) ≡ put_tree (structure a) (below a) (trees xs)
  trees_put a [] = listed.first a [] ∙ ap (tree (structure a) (below a)) listed.nothing ∙ ap (put_tree (structure a) (below a)) (sym listed.nothing)
  trees_put a (x ∷ xs) = by (falls (own_tag a) (own_tag x)) (trees_put a xs) ∙ ap (put_tree (structure a) (below a)) (sym (listed.first x xs))
    where
      by : (t : Bool) → trees (put own_tag a xs) ≡ put_tree (structure a) (below a) (trees xs)
          → trees (cond t (x ∷ put own_tag a xs) (a ∷ x ∷ xs)) ≡ cond t (tree (structure x) (below x) (put_tree (structure a) (below a) (trees xs))) (tree (structure a) (below a) (tree (structure x) (below x) (trees xs)))
      by true h = listed.first x (put own_tag a xs) ∙ ap (tree (structure x) (below x)) h
      by false h = listed.first a (x ∷ xs) ∙ ap (tree (structure a) (below a)) (listed.first x xs)

  pub all_put : (xs : List A) → trees (put_all own_tag xs) ≡ grouped (trees xs)
  all_put [] = listed.nothing ∙ ap grouped (sym listed.nothing)
  all_put (x ∷ xs) = trees_put x (put_all own_tag xs) ∙ ap (put_tree (structure x) (below x)) (all_put xs) ∙ ap grouped (sym (listed.first x xs))

pub grouped_is_sorted : (edition : Edition) (context : Context) (xs : Trees) → grouped (each_sorted edition context xs) ≡ sorted edition context xs
grouped_is_sorted edition context none = refl
grouped_is_sorted edition context (tree s below next) = ap (put_tree (brief_structure edition context s) (sorted edition (context_below context s.tag) below)) (grouped_is_sorted edition context next)
