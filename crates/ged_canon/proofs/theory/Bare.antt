-- Below a document's records nothing has an identifier.
use Rattle.std.proofs.Common.{◌≡◌, ℕ, ◌+◌, Bool, true, false, cond, ◌&&◌, ◌==◌, eqb-true, arith, Option, Some, None, refl, ◌⊎◌, inl, inr, ⊎_elim}
use Rattle.std.proofs.lemmas.Bool.{and_parts}
use Rattle.ged_line.specs.Bytes.{Bytes}
use Rattle.ged_line.specs.Names.{is_xref, is_tag}
use Rattle.ged_tree.specs.Trees.{Structure, Trees, none, tree}
use Rattle.ged_tree.specs.Documents.{is_document, is_payload_at, is_structure_at, are_at}
use Rattle.ged_tree.specs.inner.DocumentParts.{is_xref_at}
use Rattle.ged_link.specs.Links.{IsAmong, xrefs, IsNamed}
use Rattle.ged_link.specs.inner.Identifiers.{Names}
use Rattle.ged_schema.specs.declared.context.Context.{Context}
use Rattle.ged_schema.specs.declared.context.Context.TheVariants.{File}
use Rattle.ged_schema.specs.Tables.{context_below}
use Rattle.ged_canon.specs.declared.edition.Edition.{Edition}
use Rattle.ged_canon.specs.inner.Working.{falls, put, used_trees, brief_structure, sorted, sorted_document}
use Rattle.std.specs.Prelude.{⊤, nat_le, not, codes, bytes_eq}
use Rattle.ged_canon.specs.inner.Paired.{Bare}
use Rattle.ged_canon.proofs.theory.Heads.{parts}
use Rattle.ged_canon.proofs.theory.Fixed.{with_others}
use Rattle.ged_canon.proofs.theory.Used.{none_some, with_xref_here}

-- what is known of a place
pub record Stands (level : ℕ) (s : Structure) (below next : Trees) : Type 0 where
  pub tagged : (nat_le level 99 && (is_tag s.tag && not (bytes_eq s.tag (codes "CONT")))) ≡ true
  pub named : is_xref_at level s.xref ≡ true
  pub carried : is_payload_at level s.payload ≡ true
  pub below_stands : are_at (level + 1) below ≡ true
  pub next_stands : are_at level next ≡ true

pub stands : (level : ℕ) (s : Structure) (below next : Trees) → are_at level (tree s below next) ≡ true → Stands level s below next
stands level s below next h =
    let a = and_parts (is_structure_at level s) (are_at (level + 1) below && are_at level next) h in
    let b = and_parts (are_at (level + 1) below) (are_at level next) a.1 in
    let c = and_parts (nat_le level 99 && (is_tag s.tag && not (bytes_eq s.tag (codes "CONT")))) (is_xref_at level s.xref && is_payload_at level s.payload) a.0 in
    let d = and_parts (is_xref_at level s.xref) (is_payload_at level s.payload) c.1 in
    record { tagged = c.0; named = d.0; carried = d.1; below_stands = b.0; next_stands = b.1 }

-- nothing below the trees side by side has one
abbrev pub BareBelow : Trees → Type 0
BareBelow none = ⊤
BareBelow (tree s below next) = Bare below × BareBelow next

no_xref : (level : ℕ) (x : Option Bytes) → is_xref_at (level + 1) x ≡ true → x ≡ None
no_xref level None h = refl
no_xref level (Some name) h = let e = eqb-true (level + 1) 0 ((and_parts ((level + 1) == 0) (is_xref name) h).0) in absurd (omega arith)

deep_bare : (level : ℕ) (xs : Trees) → are_at (level + 1) xs ≡ true → Bare xs
deep_bare level none h = tt
deep_bare level (tree s below next) h = let k = stands (level + 1) s below next h in (no_xref level s.xref k.named, deep_bare (level + 1) below k.below_stands, deep_bare level next k.next_stands)

places_bare : (xs : Trees) → are_at 0 xs ≡ true → BareBelow xs
places_bare none h = tt
places_bare (tree s below next) h = let k = stands 0 s below next h in (deep_bare 0 below k.below_stands, places_bare next k.next_stands)

pub document_bare : (d : Trees) → is_document d ≡ true → BareBelow d
document_bare none h = tt
document_bare (tree s below next) h = places_bare (tree s below next) (parts s below next h).places

-- Kept by a sort, and where names are dropped.

put_bare : (s : Structure) (b xs : Trees) → s.xref ≡ None → Bare b → Bare xs → Bare (put s b xs)
put_bare s b none h k l = (h, k, tt)
put_bare s b (tree x y xs) h k l = by (falls s.tag x.tag) (put_bare s b xs h k l.2)
  where
    by : (t : Bool) → Bare (put s b xs) → Bare (cond t (tree x y (put s b xs)) (tree s b (tree x y xs)))
    by true r = (l.0, l.1, r)
    by false r = (h, k, l)

pub sorted_bare : (edition : Edition) (context : Context) (xs : Trees) → Bare xs → Bare (sorted edition context xs)
sorted_bare edition context none h = tt
sorted_bare edition context (tree s below next) h = put_bare (brief_structure edition context s) (sorted edition (context_below context s.tag) below) (sorted edition context next) h.0 (sorted_bare edition (context_below context s.tag) below h.1) (sorted_bare edition context next h.2)

put_below : (s : Structure) (b xs : Trees) → Bare b → BareBelow xs → BareBelow (put s b xs)
put_below s b none k l = (k, tt)
put_below s b (tree x y xs) k l = by (falls s.tag x.tag) (put_below s b xs k l.1)
  where
    by : (t : Bool) → BareBelow (put s b xs) → BareBelow (cond t (tree x y (put s b xs)) (tree s b (tree x y xs)))
    by true r = (l.0, r)
    by false r = (k, l)

sorted_below : (edition : Edition) (context : Context) (xs : Trees) → BareBelow xs → BareBelow (sorted edition context xs)
sorted_below edition context none h = tt
sorted_below edition context (tree s below next) h = put_below (brief_structure edition context s) (sorted edition (context_below context s.tag) below) (sorted edition context next) (sorted_bare edition (context_below context s.tag) below h.0) (sorted_below edition context next h.1)

pub document_sorted_bare : (edition : Edition) (d : Trees) → BareBelow d → BareBelow (sorted_document edition d)
document_sorted_bare edition none h = tt
document_sorted_bare edition (tree s below next) h = (sorted_bare edition (context_below File s.tag) below h.0, sorted_below edition File next h.1)

pub used_bare : (used : Bytes → Bool) (xs : Trees) → BareBelow xs → BareBelow (used_trees used xs)
used_bare used none h = tt
used_bare used (tree s below next) h = (h.0, used_bare used next h.1)

-- So each name is a record's identifier, or some pointer's.

-- at any depth, an identifier or a pointer with this name
abbrev pub Mentions : Trees → Bytes → Type 0
Mentions none name = ⊥
Mentions (tree s below next) name = (s.xref ≡ Some name) ⊎ (Names s.payload name ⊎ (Mentions below name ⊎ Mentions next name))

-- an identifier of the trees side by side, or a pointer, with this name
abbrev pub HasName : Trees → Bytes → Type 0
HasName d name = IsAmong name (xrefs d) ⊎ IsNamed d name

bare_mentions : (xs : Trees) (name : Bytes) → Bare xs → Mentions xs name → IsNamed xs name
bare_mentions none name h k = k
bare_mentions (tree s below next) name h (inl e) = absurd (not_some s.xref h.0 e)
  where
    not_some : (x : Option Bytes) → x ≡ None → x ≡ Some name → ⊥
    not_some None p q = none_some name q
    not_some (Some n) p q = cc
bare_mentions (tree s below next) name h (inr (inl k)) = inl k
bare_mentions (tree s below next) name h (inr (inr (inl k))) = inr (inl (bare_mentions below name h.1 k))
bare_mentions (tree s below next) name h (inr (inr (inr k))) = inr (inr (bare_mentions next name h.2 k))

pub mentions_has : (d : Trees) (name : Bytes) → BareBelow d → Mentions d name → HasName d name
mentions_has none name h k = inr k
mentions_has (tree s below next) name h (inl e) = inl (with_xref_here s.xref (xrefs next) name e)
mentions_has (tree s below next) name h (inr (inl k)) = inr (inl k)
mentions_has (tree s below next) name h (inr (inr (inl k))) = inr (inr (inl (bare_mentions below name h.0 k)))
mentions_has (tree s below next) name h (inr (inr (inr k))) = ⊎_elim (λ p. inl (with_others s.xref (xrefs next) name p)) (λ p. inr (inr (inr p))) (mentions_has next name h.1 k)
