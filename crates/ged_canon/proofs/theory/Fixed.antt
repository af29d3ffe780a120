-- A normal document is its own canonical document.
use Rattle.std.proofs.Common.{◌≡◌, ℕ, ◌+◌, Bool, true, false, ◌||◌, List, [], ◌∷◌, Option, Some, None, refl, sym, ap, ◌∙◌, inl, inr}
use Rattle.std.specs.Prelude.{bytes_eq}
use Rattle.std.proofs.lemmas.Bool.{or_left, or_right}
use Rattle.ged_line.specs.Bytes.{Bytes}
use Rattle.ged_tree.specs.declared.payload.Payload.{Payload}
use Rattle.ged_tree.specs.declared.payload.Payload.TheVariants.{Void, Pointer, Text}
use Rattle.ged_tree.specs.Trees.{Trees, none, tree, records_of}
use Rattle.ged_link.specs.Links.{IsAmong, xrefs, IsNamed}
use Rattle.ged_link.specs.inner.Identifiers.{with_xref, Names}
use Rattle.ged_schema.specs.declared.context.Context.{Context}
use Rattle.ged_schema.specs.declared.context.Context.TheVariants.{File}
use Rattle.ged_schema.specs.Tables.{row, context_below}
use Rattle.ged_canon.proofs.theory.Orders.{tags_of_order}
use Rattle.ged_canon.specs.declared.edition.Edition.{Edition}
use Rattle.ged_canon.specs.Steps.{renamed_payload, renamed}
use Rattle.ged_canon.specs.inner.StepParts.{with_payload, renamed_xref}
use Rattle.ged_canon.specs.Normal.{InOrder, AreNormal, AreNumbered, Normal}
use Rattle.ged_canon.specs.inner.Orders.{TagsInOrder, tags}
use Rattle.ged_canon.specs.inner.Working.{names, is_named, used_xref, used_trees, used_document, brief_structure, sorted, sorted_document, number_of, numbered_document, canon}
use Rattle.ged_canon.proofs.theory.Texts.{same_bytes, equal_bytes}
use Rattle.ged_canon.proofs.theory.Sorting.{put_first}
use Rattle.ged_canon.proofs.theory.Brief.{brief_payload_same}

-- Use.

names-true : (p : Payload) (name : Bytes) → Names p name → names p name ≡ true
names-true p name h = ap (λ q. names q name) h ∙ same_bytes name name refl

pub is_named-true : (xs : Trees) (name : Bytes) → IsNamed xs name → is_named xs name ≡ true
is_named-true none name h = absurd h
is_named-true (tree s below next) name (inl h) = or_left (names s.payload name) (is_named below name || is_named next name) (names-true s.payload name h)
is_named-true (tree s below next) name (inr (inl h)) = or_right (names s.payload name) (is_named below name || is_named next name) (or_left (is_named below name) (is_named next name) (is_named-true below name h))
is_named-true (tree s below next) name (inr (inr h)) = or_right (names s.payload name) (is_named below name || is_named next name) (or_right (is_named below name) (is_named next name) (is_named-true next name h))

-- where each identifier is used, none is dropped
used_xref_same : (used : Bytes → Bool) (x : Option Bytes) (others : List Bytes) → ((name : Bytes) → IsAmong name (with_xref x others) → used name ≡ true) → used_xref used x ≡ x
used_xref_same used None others h = refl
used_xref_same used (Some name) others h = let e = h name (inl refl) in rw e

pub with_others : (x : Option Bytes) (others : List Bytes) (name : Bytes) → IsAmong name others → IsAmong name (with_xref x others)
with_others None others name h = h
with_others (Some first) others name h = inr h

pub used_all : (used : Bytes → Bool) (xs : Trees) → ((name : Bytes) → IsAmong name (xrefs xs) → used name ≡ true) → used_trees used xs ≡ xs
used_all used none h = refl
used_all used (tree s below next) h =
    let x = used_xref_same used s.xref (xrefs next) h in
    let rest = used_all used next (λ name k. h name (with_others s.xref (xrefs next) name k)) in
    λ i. tree (record { xref = x i; tag = s.tag; payload = s.payload }) below (rest i)

-- Order.

in_order_rest : (a : Bytes) (rest : List Bytes) → TagsInOrder (a ∷ rest) → TagsInOrder rest
in_order_rest a [] h = h
in_order_rest a (b ∷ rest) h = h.1

-- normal trees are sorted
pub sorted_same : (edition : Edition) (context : Context) (xs : Trees) → AreNormal edition context xs → TagsInOrder (tags xs) → sorted edition context xs ≡ xs
sorted_same edition context none h o = refl
sorted_same edition context (tree s below next) h o =
    let deep = sorted_same edition (context_below context s.tag) below h.2 (tags_of_order below h.1) in
    let rest = sorted_same edition context next h.3 (in_order_rest s.tag (tags next) o) in
    let calm : brief_structure edition context s ≡ s = λ i. with_payload s (brief_payload_same edition (row context s.tag) s.payload h.0 i) in
    rw (deep, rest, calm) (put_first s below next o)

pub sorted_document_same : (edition : Edition) (d : Trees) → AreNormal edition File d → InOrder (records_of d) → sorted_document edition d ≡ d
sorted_document_same edition none h o = refl
sorted_document_same edition (tree s below next) h o =
    let deep = sorted_same edition (context_below File s.tag) below h.2 (tags_of_order below h.1) in
    let rest = sorted_same edition File next h.3 (tags_of_order next o) in
    λ i. tree (with_payload s (brief_payload_same edition (row File s.tag) s.payload h.0 i)) (deep i) (rest i)

-- Numbers.

number_same : (n : ℕ) (ns : List Bytes) (name : Bytes) → AreNumbered n ns → number_of n ns name ≡ name
number_same n [] name h = refl
number_same n (first ∷ ns) name h = by (bytes_eq first name) refl (number_same (n + 1) ns name h.1)
  where
    by : (t : Bool) → bytes_eq first name ≡ t → number_of (n + 1) ns name ≡ name → number_of n (first ∷ ns) name ≡ name
    by true e rest = rw e (sym h.0 ∙ equal_bytes first name e)
    by false e rest = rw e rest

-- Renaming by what leaves each name alone.

module _ (f : Bytes → Bytes) (same : (name : Bytes) → f name ≡ name) where
  payload_alone : (p : Payload) → renamed_payload f p ≡ p
  payload_alone Void = refl
  payload_alone (Pointer name) = ap Pointer (same name)
  payload_alone (Text lines) = refl

  xref_alone : (x : Option Bytes) → renamed_xref f x ≡ x
  xref_alone None = refl
  xref_alone (Some name) = ap Some (same name)

  pub trees_alone : (xs : Trees) → renamed f xs ≡ xs
  trees_alone none = refl
  trees_alone (tree s below next) = λ i. tree (record { xref = xref_alone s.xref i; tag = s.tag; payload = payload_alone s.payload i }) (trees_alone below i) (trees_alone next i)

pub canon_same : (edition : Edition) (d : Trees) → Normal edition d → canon edition d ≡ d
canon_same edition d h =
    let u : used_document d ≡ d = used_all (is_named d) d (λ name k. is_named-true d name (h.xrefs_used name k)) in
    ap (λ x. numbered_document (sorted_document edition x)) u
    ∙ ap numbered_document (sorted_document_same edition d h.places h.records_in_order)
    ∙ trees_alone (number_of 1 (xrefs d)) (λ name. number_same 1 (xrefs d) name h.xrefs_numbered) d
