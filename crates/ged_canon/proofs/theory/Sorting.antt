-- Trees put into tag order, one at a time.
use Rattle.std.proofs.Common.{◌≡◌, ◌≢◌, ℕ, Bool, true, false, ◌∷◌, refl, sym, ap, subst, ◌∙◌, ◌⊎◌, inl, inr, ⊎_elim}
use Rattle.std.specs.Cmp.{IsTotalOrder}
use Rattle.std.specs.Prelude.{cond, codes}
use Rattle.std.specs.Str.{bytes_eq}
use Rattle.std.specs.Ordering.{is_gt, nat_cmp, on, then_cmp, ordering_reverse, ordering_then}
use Rattle.std.specs.declared.cmp.Ordering.{Ordering}
use Rattle.std.specs.declared.cmp.Ordering.TheVariants.{Less, Equal, Greater}
use Rattle.std.specs.Cmp.Lexicographic.{slice_cmp, bytes_decides}
use Rattle.std.proofs.lemmas.Cmp.{then_total, on_total, nat_cmp_total, nat_list_cmp_total, upto, tied_itself}
use Rattle.std.proofs.lemmas.Map.Lookups.{exact_bytes}
use Rattle.std.proofs.lemmas.Bool.{true≢false, true_from_ne_false}
use Rattle.ged_line.specs.Bytes.{Bytes}
use Rattle.ged_line.specs.Names.{tag_order}
use Rattle.ged_tree.specs.Trees.{Structure, Trees, none, tree}
use Rattle.ged_canon.specs.Steps.{renamed}
use Rattle.ged_canon.specs.inner.StepParts.{renamed_structure}
use Rattle.ged_canon.specs.inner.Orders.{TagsInOrder, tags}
use Rattle.ged_canon.specs.inner.Working.{falls, put}

abbrev gedc : Bytes
gedc = codes "GEDC"

-- GEDC first, every other tag after it
abbrev rank : Bytes → ℕ
rank tag = cond (bytes_eq tag gedc) 0 1

abbrev ranked : Bytes → Bytes → Ordering
ranked = then_cmp (on rank nat_cmp) (slice_cmp nat_cmp)

as_ranked : (a b : Bytes) → tag_order a b ≡ ranked a b
as_ranked a b = by (bytes_eq a gedc) (bytes_eq b gedc) refl refl
  where
    by : (x y : Bool) → bytes_eq a gedc ≡ x → bytes_eq b gedc ≡ y → cond x (cond y Equal Less) (cond y Greater (slice_cmp nat_cmp a b)) ≡ ordering_then (nat_cmp (cond x 0 1) (cond y 0 1)) (slice_cmp nat_cmp a b)
    by true true p q = λ i. slice_cmp nat_cmp (sym ((bytes_decides a gedc).0 p) i) (sym ((bytes_decides b gedc).0 q) i)
    by true false p q = refl
    by false true p q = refl
    by false false p q = refl

pub tags_total : IsTotalOrder tag_order
tags_total = subst IsTotalOrder (λ i a b. sym (as_ranked a b) i) (then_total (on_total rank nat_cmp_total) nat_list_cmp_total)

pub equal_tags : (a b : Bytes) → tag_order a b ≡ Equal → a ≡ b
equal_tags a b h = exact_bytes a b (second (on rank nat_cmp a b) (slice_cmp nat_cmp a b) (sym (as_ranked a b) ∙ h))
  where
    second : (o p : Ordering) → ordering_then o p ≡ Equal → p ≡ Equal
    second Less p e = absurd (cc)
    second Equal p e = e
    second Greater p e = absurd (cc)

-- of two different tags one falls to the other, and not both ways
pub one_way : (a b : Bytes) → a ≢ b → ((falls a b ≡ true) × (falls b a ≡ false)) ⊎ ((falls a b ≡ false) × (falls b a ≡ true))
unfolding Rattle.ged_canon.specs.inner.Working.falls
one_way a b ne = by (tag_order a b) refl
  where
    by : (o : Ordering) → tag_order a b ≡ o → ((is_gt (tag_order a b) ≡ true) × (is_gt (tag_order b a) ≡ false)) ⊎ ((is_gt (tag_order a b) ≡ false) × (is_gt (tag_order b a) ≡ true))
    by Less e = inr (ap is_gt e, ap is_gt (tags_total.antisymm b a ∙ ap ordering_reverse e))
    by Equal e = absurd (ne (equal_tags a b e))
    by Greater e = inl (ap is_gt e, ap is_gt (tags_total.antisymm b a ∙ ap ordering_reverse e))

pub between : (a b x : Bytes) → falls a x ≡ true → falls b x ≡ false → falls a b ≡ true
unfolding Rattle.ged_canon.specs.inner.Working.falls
between a b x p q = true_from_ne_false (is_gt (tag_order a b)) (λ h. true≢false (sym p ∙ upto tags_total a b x h q))

-- a tag doesn't fall to itself
pub falls_itself : (a b : Bytes) → falls a b ≡ true → a ≢ b
unfolding Rattle.ged_canon.specs.inner.Working.falls
falls_itself a b h e = true≢false (sym h ∙ ap (λ t. is_gt (tag_order a t)) (sym e) ∙ ap is_gt (tied_itself tags_total a))

pub not_falling : (a b : Bytes) → (tag_order a b ≢ Greater) → falls a b ≡ false
unfolding Rattle.ged_canon.specs.inner.Working.falls
not_falling a b h = by (tag_order a b) refl
  where
    by : (o : Ordering) → tag_order a b ≡ o → is_gt (tag_order a b) ≡ false
    by Less e = ap is_gt e
    by Equal e = ap is_gt e
    by Greater e = absurd (h e)

pub not_greater : (a b : Bytes) → falls a b ≡ false → tag_order a b ≢ Greater
unfolding Rattle.ged_canon.specs.inner.Working.falls
not_greater a b e g = true≢false (sym (ap is_gt g) ∙ e)

pub after_falling : (a b : Bytes) → falls a b ≡ true → tag_order b a ≢ Greater
after_falling a b e = not_greater b a (⊎_elim (λ h. h.1) (λ h. absurd (true≢false (sym e ∙ h.0))) (one_way a b (falls_itself a b e)))

put_step : (s t x : Structure) (b c y xs : Trees) (fs ft : Bool) → falls s.tag x.tag ≡ fs → falls t.tag x.tag ≡ ft → ((falls s.tag t.tag ≡ true) × (falls t.tag s.tag ≡ false)) ⊎ ((falls s.tag t.tag ≡ false) × (falls t.tag s.tag ≡ true)) → put s b (put t c xs) ≡ put t c (put s b xs) → put s b (put t c (tree x y xs)) ≡ put t c (put s b (tree x y xs))
put_step s t x b c y xs true true p q d ih = simp (p, q) (ap (tree x y) ih)
put_step s t x b c y xs true false p q d ih = let r = between s.tag t.tag x.tag p q in simp (p, q, r)
put_step s t x b c y xs false true p q d ih = let r = between t.tag s.tag x.tag q p in simp (p, q, r)
put_step s t x b c y xs false false p q (inl d) ih = let h = d.0 in let k = d.1 in simp (p, q, h, k)
put_step s t x b c y xs false false p q (inr d) ih = let h = d.0 in let k = d.1 in simp (p, q, h, k)

-- the order in which trees of different tags are put in does not matter
pub put-put : (s t : Structure) → s.tag ≢ t.tag → (b c xs : Trees) → put s b (put t c xs) ≡ put t c (put s b xs)
put-put s t ne b c none = ⊎_elim (λ h. let p = h.0 in let q = h.1 in simp (p, q)) (λ h. let p = h.0 in let q = h.1 in simp (p, q)) (one_way s.tag t.tag ne)
put-put s t ne b c (tree x y xs) = put_step s t x b c y xs (falls s.tag x.tag) (falls t.tag x.tag) refl refl (one_way s.tag t.tag ne) (put-put s t ne b c xs)

-- a renaming keeps the order
pub put_renamed : (f : Bytes → Bytes) (s : Structure) (b xs : Trees) → put (renamed_structure f s) (renamed f b) (renamed f xs) ≡ renamed f (put s b xs)
put_renamed f s b none = refl
put_renamed f s b (tree x y xs) = by (falls s.tag x.tag) refl (put_renamed f s b xs)
  where
    by : (t : Bool) → falls s.tag x.tag ≡ t → put (renamed_structure f s) (renamed f b) (renamed f xs) ≡ renamed f (put s b xs) → put (renamed_structure f s) (renamed f b) (renamed f (tree x y xs)) ≡ renamed f (put s b (tree x y xs))
    by true e rest = rw e (ap (tree (renamed_structure f x) (renamed f y)) rest)
    by false e rest = rw e

-- a tree that may stand before the others is put first
pub put_first : (s : Structure) (b xs : Trees) → TagsInOrder (s.tag ∷ tags xs) → put s b xs ≡ tree s b xs
put_first s b none h = refl
put_first s b (tree x y xs) h = rw (not_falling s.tag x.tag h.0)
