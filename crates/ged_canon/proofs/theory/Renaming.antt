-- A renaming, and a name gained or lost, leave the canonical document as it is.
use Rattle.std.proofs.Common.{◌≡◌, ℕ, ◌+◌, Bool, true, false, cond, ◌||◌, List, [], ◌∷◌, map, Option, Some, None, refl, sym, ap, ◌∙◌, subst, ◌⊎◌, inl, inr, ⊎_elim}
use Rattle.std.specs.Prelude.{bytes_eq}
use Rattle.std.proofs.lemmas.Bool.{true≢false, cases_Bool}
use Rattle.ged_line.specs.Bytes.{Bytes}
use Rattle.ged_tree.specs.declared.payload.Payload.{Payload}
use Rattle.ged_tree.specs.declared.payload.Payload.TheVariants.{Void, Pointer, Text}
use Rattle.ged_tree.specs.Trees.{Structure, Trees, none, tree}
use Rattle.ged_tree.specs.Documents.{is_document}
use Rattle.ged_link.specs.Links.{IsAmong, AreDistinct, xrefs, IsNamed}
use Rattle.ged_link.specs.inner.Identifiers.{with_xref, Names}
use Rattle.ged_schema.specs.declared.context.Context.{Context}
use Rattle.ged_schema.specs.declared.context.Context.TheVariants.{File}
use Rattle.ged_schema.specs.Rows.{Row}
use Rattle.ged_schema.specs.Tables.{row, context_below}
use Rattle.ged_canon.specs.declared.edition.Edition.{Edition}
use Rattle.ged_canon.specs.Steps.{new_name, renamed_payload, renamed, Renamed, Gains, gains, after, GainsIdentifier}
use Rattle.ged_canon.specs.inner.StepParts.{renamed_structure, renamed_xref, olds, news}
use Rattle.ged_canon.specs.inner.Working.{put, names, is_named, used_xref, used_structure, used_trees, used_document, brief, brief_structure, sorted, sorted_document, number_of, numbered_document, canon}
use Rattle.ged_canon.proofs.theory.Texts.{same_bytes, equal_bytes, other_bytes}
use Rattle.ged_canon.proofs.theory.Sorting.{put_renamed}
use Rattle.ged_canon.proofs.theory.Fixed.{is_named-true, with_others}
use Rattle.ged_canon.proofs.theory.Bare.{BareBelow, Mentions, HasName, mentions_has, document_bare, document_sorted_bare, used_bare}
use Rattle.ged_canon.proofs.theory.Used.{unused, document_sorted_names, sorted_xrefs, xrefs_sorted, used_xrefs, xrefs_used, used_names}

-- Names that are renamed.

pub renamed_tests_alike : (f : Bytes → Bytes) (a b : Bytes) → (f a ≡ f b → a ≡ b) → bytes_eq (f a) (f b) ≡ bytes_eq a b
renamed_tests_alike f a b inj = ⊎_elim
    (λ e. same_bytes (f a) (f b) (ap f (equal_bytes a b e)) ∙ sym e)
    (λ e. other_bytes (f a) (f b) (λ k. true≢false (sym (same_bytes a b (inj k)) ∙ e)) ∙ sym e)
    (cases_Bool (bytes_eq a b))

module _ (f : Bytes → Bytes) (name : Bytes) where
  names_renamed : (p : Payload) → ((target : Bytes) → Names p target → f target ≡ f name → target ≡ name) → names (renamed_payload f p) (f name) ≡ names p name
  names_renamed Void h = refl
  names_renamed (Pointer target) h = renamed_tests_alike f target name (h target refl)
  names_renamed (Text lines) h = refl

  is_named_renamed : (xs : Trees) → ((target : Bytes) → IsNamed xs target → f target ≡ f name → target ≡ name) → is_named (renamed f xs) (f name) ≡ is_named xs name
  is_named_renamed none h = refl
  is_named_renamed (tree s below next) h =
      let p = names_renamed s.payload (λ t k. h t (inl k)) in
      let b = is_named_renamed below (λ t k. h t (inr (inl k))) in
      let r = is_named_renamed next (λ t k. h t (inr (inr k))) in
      λ i. p i || (b i || r i)

-- Dropping unused names, and sorting, go along with a renaming.

used_xref_renamed : (f : Bytes → Bytes) (used used' : Bytes → Bool) (x : Option Bytes) (others : List Bytes) → ((name : Bytes) → IsAmong name (with_xref x others) → used' (f name) ≡ used name) → used_xref used' (renamed_xref f x) ≡ renamed_xref f (used_xref used x)
used_xref_renamed f used used' None others h = refl
used_xref_renamed f used used' (Some name) others h = by (used name) (h name (inl refl))
  where
    by : (t : Bool) → used' (f name) ≡ t → cond (used' (f name)) (Some (f name)) None ≡ renamed_xref f (cond t (Some name) None)
    by true e = rw e
    by false e = rw e

used_trees_renamed : (f : Bytes → Bytes) (used used' : Bytes → Bool) (xs : Trees) → ((name : Bytes) → IsAmong name (xrefs xs) → used' (f name) ≡ used name) → used_trees used' (renamed f xs) ≡ renamed f (used_trees used xs)
used_trees_renamed f used used' none h = refl
used_trees_renamed f used used' (tree s below next) h =
    let x = used_xref_renamed f used used' s.xref (xrefs next) h in
    let rest = used_trees_renamed f used used' next (λ name k. h name (with_others s.xref (xrefs next) name k)) in
    λ i. tree (record { xref = x i; tag = s.tag; payload = renamed_payload f s.payload }) (renamed f below) (rest i)

pub used_renamed : (f : Bytes → Bytes) (d : Trees) → ((name target : Bytes) → IsAmong name (xrefs d) → IsNamed d target → f target ≡ f name → target ≡ name) → used_document (renamed f d) ≡ renamed f (used_document d)
used_renamed f d h = used_trees_renamed f (is_named d) (is_named (renamed f d)) d (λ name k. is_named_renamed f name d (λ target q. h name target k q))

pub brief_renamed : (f : Bytes → Bytes) (edition : Edition) (r : Option Row) (p : Payload) → brief edition r (renamed_payload f p) ≡ renamed_payload f (brief edition r p)
brief_renamed f edition r Void = refl
brief_renamed f edition r (Pointer name) = refl
brief_renamed f edition r (Text []) = refl
brief_renamed f edition r (Text (line ∷ [])) = refl
brief_renamed f edition r (Text (line ∷ (next ∷ lines))) = refl

module _ (edition : Edition) (f : Bytes → Bytes) where
  plain_structure_renamed : (context : Context) (s : Structure) → brief_structure edition context (renamed_structure f s) ≡ renamed_structure f (brief_structure edition context s)
  plain_structure_renamed context s = λ i. record { xref = renamed_xref f s.xref; tag = s.tag; payload = brief_renamed f edition (row context s.tag) s.payload i }

  pub sorted_renamed : (context : Context) (xs : Trees) → sorted edition context (renamed f xs) ≡ renamed f (sorted edition context xs)
  sorted_renamed context none = refl
  sorted_renamed context (tree s below next) =
      (λ i. put (plain_structure_renamed context s i) (sorted_renamed (context_below context s.tag) below i) (sorted_renamed context next i))
      ∙ put_renamed f (brief_structure edition context s) (sorted edition (context_below context s.tag) below) (sorted edition context next)

  pub document_sorted_renamed : (d : Trees) → sorted_document edition (renamed f d) ≡ renamed f (sorted_document edition d)
  document_sorted_renamed none = refl
  document_sorted_renamed (tree s below next) = λ i. tree (plain_structure_renamed File s i) (sorted_renamed (context_below File s.tag) below i) (sorted_renamed File next i)

-- Two renamings after each other, where they agree with a third on the names of a document.

module _ (f g h : Bytes → Bytes) where
  payload_twice : (p : Payload) → ((name : Bytes) → Names p name → g (f name) ≡ h name) → renamed_payload g (renamed_payload f p) ≡ renamed_payload h p
  payload_twice Void k = refl
  payload_twice (Pointer name) k = ap Pointer (k name refl)
  payload_twice (Text lines) k = refl

  xref_twice : (x : Option Bytes) → ((name : Bytes) → x ≡ Some name → g (f name) ≡ h name) → renamed_xref g (renamed_xref f x) ≡ renamed_xref h x
  xref_twice None k = refl
  xref_twice (Some name) k = ap Some (k name refl)

  pub renamed_twice : (xs : Trees) → ((name : Bytes) → Mentions xs name → g (f name) ≡ h name) → renamed g (renamed f xs) ≡ renamed h xs
  renamed_twice none k = refl
  renamed_twice (tree s below next) k =
      let x = xref_twice s.xref (λ name q. k name (inl q)) in
      let p = payload_twice s.payload (λ name q. k name (inr (inl q))) in
      let b = renamed_twice below (λ name q. k name (inr (inr (inl q)))) in
      let r = renamed_twice next (λ name q. k name (inr (inr (inr q)))) in
      λ i. tree (record { xref = x i; tag = s.tag; payload = p i }) (b i) (r i)

-- Numbers.

with_xref_renamed : (f : Bytes → Bytes) (x : Option Bytes) (others : List Bytes) → with_xref (renamed_xref f x) (map f others) ≡ map f (with_xref x others)
with_xref_renamed f None others = refl
with_xref_renamed f (Some name) others = refl

pub xrefs_renamed : (f : Bytes → Bytes) (xs : Trees) → xrefs (renamed f xs) ≡ map f (xrefs xs)
xrefs_renamed f none = refl
xrefs_renamed f (tree s below next) = ap (with_xref (renamed_xref f s.xref)) (xrefs_renamed f next) ∙ with_xref_renamed f s.xref (xrefs next)

-- a name keeps its number
number_renamed : (f : Bytes → Bytes) (n : ℕ) (ns : List Bytes) (name : Bytes) → ((first : Bytes) → IsAmong first ns → f first ≡ f name → first ≡ name) → IsAmong name ns ⊎ (f name ≡ name) → number_of n (map f ns) (f name) ≡ number_of n ns name
number_renamed f n [] name inj (inl h) = absurd h
number_renamed f n [] name inj (inr h) = h
number_renamed f n (first ∷ ns) name inj h = by (bytes_eq first name) refl (λ k. number_renamed f (n + 1) ns name (λ other q. inj other (inr q)) k)
  where
    tests : bytes_eq (f first) (f name) ≡ bytes_eq first name
    tests = renamed_tests_alike f first name (inj first (inl refl))

    left : bytes_eq first name ≡ false → IsAmong name (first ∷ ns) ⊎ (f name ≡ name) → IsAmong name ns ⊎ (f name ≡ name)
    left e (inl (inl k)) = absurd (true≢false (sym (same_bytes first name (sym k)) ∙ e))
    left e (inl (inr k)) = inl k
    left e (inr k) = inr k

    by : (t : Bool) → bytes_eq first name ≡ t → (IsAmong name ns ⊎ (f name ≡ name) → number_of (n + 1) (map f ns) (f name) ≡ number_of (n + 1) ns name) → number_of n (map f (first ∷ ns)) (f name) ≡ number_of n (first ∷ ns) name
    by true e rest = rw (tests, e)
    by false e rest = rw (tests, e) (rest (left e h))

-- what a renaming keeps apart, and what it leaves alone
pub record KeepsApart (f : Bytes → Bytes) (d : Trees) : Type 0 where
  pub apart : (a b : Bytes) → HasName d a → IsAmong b (xrefs d) → f a ≡ f b → a ≡ b
  pub fixed : (a : Bytes) → IsNamed d a → IsAmong a (xrefs d) ⊎ (f a ≡ a)

numbered_renamed : (f : Bytes → Bytes) (s : Trees) → BareBelow s → KeepsApart f s → numbered_document (renamed f s) ≡ numbered_document s
numbered_renamed f s bare k =
    ap (λ ns. renamed (number_of 1 ns) (renamed f s)) (xrefs_renamed f s)
    ∙ renamed_twice f (number_of 1 (map f (xrefs s))) (number_of 1 (xrefs s)) s (λ name m.
    let h = mentions_has s name bare m in
    number_renamed f 1 (xrefs s) name (λ first q e. sym (k.apart name first h q (sym e))) (⊎_elim (λ q. inl q) (λ q. k.fixed name q) h))

kept_apart : (edition : Edition) (f : Bytes → Bytes) (d : Trees) → KeepsApart f d → KeepsApart f (sorted_document edition (used_document d))
kept_apart edition f d k = record {
  apart = λ a b h q e. k.apart a b
      (⊎_elim (λ p. inl ((used_xrefs d a (sorted_xrefs edition a (used_document d) p)).0)) (λ p. inr (used_names (is_named d) d a (document_sorted_names edition a (used_document d) p))) h)
      ((used_xrefs d b (sorted_xrefs edition b (used_document d) q)).0) e;
  fixed = λ a h.
      let n = used_names (is_named d) d a (document_sorted_names edition a (used_document d) h) in
      ⊎_elim (λ p. inl (xrefs_sorted edition a (used_document d) (xrefs_used d a p (is_named-true d a n)))) (λ p. inr p) (k.fixed a n);
}

canon_renamed : (edition : Edition) (f : Bytes → Bytes) (d : Trees) → BareBelow d → KeepsApart f d → canon edition (renamed f d) ≡ canon edition d
canon_renamed edition f d bare k =
    ap (λ x. numbered_document (sorted_document edition x)) (used_renamed f d (λ name target p q e. k.apart target name (inr q) p e))
    ∙ ap numbered_document (document_sorted_renamed edition f (used_document d))
    ∙ numbered_renamed f (sorted_document edition (used_document d)) (document_sorted_bare edition (used_document d) (used_bare (is_named d) d bare)) (kept_apart edition f d k)

-- Pairs of old and new names.

abbrev pub turned : List (Bytes × Bytes) → List (Bytes × Bytes)
turned pairs = map (λ pair. (pair.1, pair.0)) pairs

no_new_name : (pairs : List (Bytes × Bytes)) (name : Bytes) → (IsAmong name (olds pairs) → ⊥) → new_name pairs name ≡ name
no_new_name [] name h = refl
no_new_name (pair ∷ pairs) name h =
    let e = other_bytes pair.0 name (λ p. h (inl (sym p))) in
    rw e (no_new_name pairs name (λ k. h (inr k)))

-- a name has a pair, or stays
pub new_name_cases : (pairs : List (Bytes × Bytes)) (name : Bytes) → ((pair : Bytes × Bytes) × IsAmong pair pairs × (pair.0 ≡ name) × (new_name pairs name ≡ pair.1)) ⊎ ((IsAmong name (olds pairs) → ⊥) × (new_name pairs name ≡ name))
new_name_cases [] name = inr (λ h. h, refl)
new_name_cases (pair ∷ pairs) name = by (bytes_eq pair.0 name) refl (new_name_cases pairs name)
  where
    by : (t : Bool) → bytes_eq pair.0 name ≡ t → ((p : Bytes × Bytes) × IsAmong p pairs × (p.0 ≡ name) × (new_name pairs name ≡ p.1)) ⊎ ((IsAmong name (olds pairs) → ⊥) × (new_name pairs name ≡ name)) → ((p : Bytes × Bytes) × IsAmong p (pair ∷ pairs) × (p.0 ≡ name) × (new_name (pair ∷ pairs) name ≡ p.1)) ⊎ ((IsAmong name (olds (pair ∷ pairs)) → ⊥) × (new_name (pair ∷ pairs) name ≡ name))
    by true e rest = inl (pair, inl refl, equal_bytes pair.0 name e, rw e refl)
    by false e (inl r) = inl (r.0, inr r.1, r.2, rw e r.3)
    by false e (inr r) = inr (⊎_elim (λ p. true≢false (sym (same_bytes pair.0 name (sym p)) ∙ e)) r.0, rw e r.1)

pub old_among : (pairs : List (Bytes × Bytes)) (pair : Bytes × Bytes) → IsAmong pair pairs → IsAmong pair.0 (olds pairs)
old_among [] pair h = h
old_among (first ∷ pairs) pair h = let rest = old_among pairs pair in ⊎_elim (λ e. inl (ap (λ p. p.0) e)) (λ k. inr (rest k)) h

pub new_among : (pairs : List (Bytes × Bytes)) (pair : Bytes × Bytes) → IsAmong pair pairs → IsAmong pair.1 (news pairs)
new_among [] pair h = h
new_among (first ∷ pairs) pair h = let rest = new_among pairs pair in ⊎_elim (λ e. inl (ap (λ p. p.1) e)) (λ k. inr (rest k)) h

-- two pairs with one new name are one pair
pub one_pair : (pairs : List (Bytes × Bytes)) (p q : Bytes × Bytes) → AreDistinct (news pairs) → IsAmong p pairs → IsAmong q pairs → p.1 ≡ q.1 → p.0 ≡ q.0
one_pair [] p q d h k e = absurd h
one_pair (first ∷ pairs) p q d (inl h) (inl k) e = ap (λ x. x.0) (h ∙ sym k)
one_pair (first ∷ pairs) p q d (inl h) (inr k) e = absurd (d.0 (subst (λ n. IsAmong n (news pairs)) (sym e ∙ ap (λ x. x.1) h) (new_among pairs q k)))
one_pair (first ∷ pairs) p q d (inr h) (inl k) e = absurd (d.0 (subst (λ n. IsAmong n (news pairs)) (e ∙ ap (λ x. x.1) k) (new_among pairs p h)))
one_pair (first ∷ pairs) p q d (inr h) (inr k) e = one_pair pairs p q d.1 h k e

module _ (d e : Trees) (r : Renamed d e) where
  apart_by : (a b : Bytes) → IsAmong a (xrefs d) ⊎ IsNamed d a → IsAmong b (xrefs d) → new_name r.pairs a ≡ new_name r.pairs b → a ≡ b
  apart_by a b h q eq = by (new_name_cases r.pairs a) (new_name_cases r.pairs b)
    where
      old_b : IsAmong b (olds r.pairs)
      old_b = subst (IsAmong b) (sym r.olds_are_xrefs) q

      by : ((p : Bytes × Bytes) × IsAmong p r.pairs × (p.0 ≡ a) × (new_name r.pairs a ≡ p.1)) ⊎ ((IsAmong a (olds r.pairs) → ⊥) × (new_name r.pairs a ≡ a)) → ((p : Bytes × Bytes) × IsAmong p r.pairs × (p.0 ≡ b) × (new_name r.pairs b ≡ p.1)) ⊎ ((IsAmong b (olds r.pairs) → ⊥) × (new_name r.pairs b ≡ b)) → a ≡ b
      by (inl s) (inl t) = sym s.2 ∙ one_pair r.pairs s.0 t.0 r.news_distinct s.1 t.1 (sym s.3 ∙ eq ∙ t.3) ∙ t.2
      by (inl s) (inr t) = absurd (t.0 old_b)
      by (inr s) (inr t) = absurd (t.0 old_b)
      by (inr s) (inl t) = absurd (⊎_elim
          (λ k. s.0 (subst (IsAmong a) (sym r.olds_are_xrefs) k))
          (λ k. s.0 (subst (IsAmong a) (sym r.olds_are_xrefs) (r.no_other_names_a_new a k (subst (λ n. IsAmong n (news r.pairs)) (sym t.3 ∙ sym eq ∙ s.1) (new_among r.pairs t.0 t.1)))))
          h)

  pub keeps_apart : KeepsApart (new_name r.pairs) d
  keeps_apart = record {
    apart = apart_by;
    fixed = λ a h. ⊎_elim
        (λ s. inl (subst (IsAmong a) r.olds_are_xrefs (subst (λ n. IsAmong n (olds r.pairs)) s.2 (old_among r.pairs s.0 s.1))))
        (λ s. inr s.1)
        (new_name_cases r.pairs a);
  }

pub canon_rename : (edition : Edition) (d e : Trees) → is_document d ≡ true → Renamed d e → canon edition d ≡ canon edition e
canon_rename edition d e h r = sym (ap (canon edition) r.all_at_once ∙ canon_renamed edition (new_name r.pairs) d (document_bare d h) (keeps_apart d e r))

-- A name gained.

gained_trees : (used : Bytes → Bool) (name : Bytes) (xs ys : Trees) → used name ≡ false → Gains name xs ys → used_trees used xs ≡ used_trees used ys
gained_trees used name _ _ u (gains s below next) = rw u
gained_trees used name _ _ u (after {t = t} {u = v} s below h) = ap (tree (used_structure used s) below) (gained_trees used name t v u h)

pub gained_names : (name target : Bytes) (xs ys : Trees) → Gains name xs ys → is_named xs target ≡ is_named ys target
gained_names name target _ _ (gains s below next) = refl
gained_names name target _ _ (after {t = t} {u = u} s below h) = ap (λ b. names s.payload target || (is_named below target || b)) (gained_names name target t u h)

pub canon_gain : (edition : Edition) (d e : Trees) → GainsIdentifier d e → canon edition d ≡ canon edition e
canon_gain edition d e h =
    let u : is_named d ≡ is_named e = λ i target. gained_names h.name target d e h.gained i in
    let off : is_named e h.name ≡ false = sym (gained_names h.name h.name d e h.gained) ∙ unused d h.name h.no_pointer_names_it in
    ap (λ x. numbered_document (sorted_document edition x)) (ap (λ used. used_trees used d) u ∙ gained_trees (is_named e) h.name d e off h.gained)
