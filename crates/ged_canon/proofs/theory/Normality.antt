-- The canonical document of a checked document is normal.
use Rattle.std.proofs.Common.{◌≡◌, ◌≢◌, ℕ, ◌+◌, Bool, true, false, cond, List, [], ◌∷◌, map, Option, refl, sym, ap, subst, inl, inr}
use Rattle.std.specs.declared.cmp.Ordering.TheVariants.{Greater}
use Rattle.ged_line.specs.Bytes.{Bytes}
use Rattle.ged_line.specs.Names.{tag_order}
use Rattle.ged_tree.specs.declared.payload.Payload.{Payload}
use Rattle.ged_tree.specs.declared.payload.Payload.TheVariants.{Void, Pointer, Text}
use Rattle.ged_tree.specs.Trees.{Structure, Trees, none, tree, records_of}
use Rattle.ged_tree.specs.Documents.{is_document}
use Rattle.ged_link.specs.Links.{IsAmong, AreDistinct, xrefs, IsNamed, Resolved}
use Rattle.ged_link.specs.inner.Identifiers.{Names}
use Rattle.ged_schema.specs.declared.context.Context.{Context}
use Rattle.ged_schema.specs.declared.context.Context.TheVariants.{File}
use Rattle.ged_schema.specs.Rows.{Row}
use Rattle.ged_schema.specs.Tables.{row, context_below}
use Rattle.ged_schema.specs.Checked.{AreChecked, Checked}
use Rattle.ged_canon.proofs.theory.Orders.{tags_of_order, order_of_tags}
use Rattle.ged_canon.specs.declared.edition.Edition.{Edition}
use Rattle.ged_canon.specs.Steps.{Equivalent, done, then, renamed_payload, renamed}
use Rattle.ged_canon.specs.Normal.{InOrder, IsBriefPayload, AreNormal, numbered, AreNumbered, Normal, IsNormalForm}
use Rattle.ged_canon.specs.inner.Orders.{TagsInOrder, tags}
use Rattle.ged_canon.specs.inner.Working.{falls, put, is_named, used_trees, used_document, brief_structure, sorted, sorted_document, number_of, canon}
use Rattle.ged_canon.proofs.theory.Texts.{same_bytes, other_bytes}
use Rattle.ged_canon.proofs.theory.Sorting.{not_greater, after_falling}
use Rattle.ged_canon.proofs.theory.Used.{is_named-from, document_names_sorted, sorted_xrefs, used_xrefs, names_used}
use Rattle.ged_canon.proofs.theory.Renaming.{xrefs_renamed}
use Rattle.ged_canon.proofs.theory.Chains.{both, once}
use Rattle.ged_canon.proofs.theory.Reach.{meets-fits, reach_sorted}
use Rattle.ged_canon.proofs.theory.Brief.{brief_is_brief}
use Rattle.ged_canon.proofs.theory.Numbering.{reach_used, numbering_step, resolved_sorted}

-- Order.

put_after : (b : Bytes) (s : Structure) (c xs : Trees) → tag_order b s.tag ≢ Greater → TagsInOrder (b ∷ tags xs) → TagsInOrder (b ∷ tags (put s c xs))
put_after b s c none h o = (h, tt)
put_after b s c (tree x y xs) h o = by (falls s.tag x.tag) refl (put_after x.tag s c xs)
  where
    by : (t : Bool) → falls s.tag x.tag ≡ t → (tag_order x.tag s.tag ≢ Greater → TagsInOrder (x.tag ∷ tags xs) → TagsInOrder (x.tag ∷ tags (put s c xs))) → TagsInOrder (b ∷ tags (cond t (tree x y (put s c xs)) (tree s c (tree x y xs))))
    by true e f = (o.0, f (after_falling s.tag x.tag e) o.1)
    by false e f = (h, (not_greater s.tag x.tag e, o.1))

pub put_in_order : (s : Structure) (c xs : Trees) → TagsInOrder (tags xs) → TagsInOrder (tags (put s c xs))
put_in_order s c none o = tt
put_in_order s c (tree x y xs) o = by (falls s.tag x.tag) refl
  where
    by : (t : Bool) → falls s.tag x.tag ≡ t → TagsInOrder (tags (cond t (tree x y (put s c xs)) (tree s c (tree x y xs))))
    by true e = put_after x.tag s c xs (after_falling s.tag x.tag e) o
    by false e = (not_greater s.tag x.tag e, o)

sorted_tags : (edition : Edition) (context : Context) (xs : Trees) → TagsInOrder (tags (sorted edition context xs))
sorted_tags edition context none = tt
sorted_tags edition context (tree s below next) = put_in_order (brief_structure edition context s) (sorted edition (context_below context s.tag) below) (sorted edition context next) (sorted_tags edition context next)

sorted_in_order : (edition : Edition) (context : Context) (xs : Trees) → InOrder (sorted edition context xs)
sorted_in_order edition context xs = order_of_tags (sorted edition context xs) (sorted_tags edition context xs)

-- a tree is normal in a context
abbrev IsNormalTree : Edition → Context → Structure → Trees → Type 0
IsNormalTree edition context s below = IsBriefPayload edition (row context s.tag) s.payload × InOrder below × AreNormal edition (context_below context s.tag) below

normal_put : (edition : Edition) (context : Context) (s : Structure) (c xs : Trees) → IsNormalTree edition context s c → AreNormal edition context xs → AreNormal edition context (put s c xs)
normal_put edition context s c none h k = (h.0, h.1, h.2, tt)
normal_put edition context s c (tree x y xs) h k = by (falls s.tag x.tag) (normal_put edition context s c xs h k.3)
  where
    by : (t : Bool) → AreNormal edition context (put s c xs) → AreNormal edition context (cond t (tree x y (put s c xs)) (tree s c (tree x y xs)))
    by true f = (k.0, k.1, k.2, f)
    by false f = (h.0, h.1, h.2, k)

module _ (edition : Edition) (d : Trees) where
  sorted_normal : (context : Context) (xs : Trees) → AreChecked d context xs → AreNormal edition context (sorted edition context xs)
  sorted_normal context none h = tt
  sorted_normal context (tree s below next) h =
      normal_put edition context (brief_structure edition context s) (sorted edition (context_below context s.tag) below) (sorted edition context next)
      (brief_is_brief edition (row context s.tag) s.payload (meets-fits d (row context s.tag) s.payload below h.0), sorted_in_order edition (context_below context s.tag) below, sorted_normal (context_below context s.tag) below h.1)
      (sorted_normal context next h.2)

  pub document_normal : (xs : Trees) → AreChecked d File xs → AreNormal edition File (sorted_document edition xs)
  document_normal none h = tt
  document_normal (tree s below next) h =
      (brief_is_brief edition (row File s.tag) s.payload (meets-fits d (row File s.tag) s.payload below h.0), sorted_in_order edition (context_below File s.tag) below, sorted_normal (context_below File s.tag) below h.1, sorted_normal File next h.2)

pub records_in_order : (edition : Edition) (d : Trees) → InOrder (records_of (sorted_document edition d))
records_in_order edition none = tt
records_in_order edition (tree s below next) = sorted_in_order edition File next

-- A renaming keeps what is normal.

module _ (edition : Edition) (f : Bytes → Bytes) where
  tags_renamed : (xs : Trees) → tags (renamed f xs) ≡ tags xs
  tags_renamed none = refl
  tags_renamed (tree s below next) = ap (λ ts. s.tag ∷ ts) (tags_renamed next)

  records_tags_renamed : (d : Trees) → tags (records_of (renamed f d)) ≡ tags (records_of d)
  records_tags_renamed none = refl
  records_tags_renamed (tree s below next) = tags_renamed next

  brief_renamed : (r : Option Row) (p : Payload) → IsBriefPayload edition r p → IsBriefPayload edition r (renamed_payload f p)
  brief_renamed r Void h = tt
  brief_renamed r (Pointer name) h = tt
  brief_renamed r (Text lines) h = h

  normal_renamed : (context : Context) (xs : Trees) → AreNormal edition context xs → AreNormal edition context (renamed f xs)
  normal_renamed context none h = tt
  normal_renamed context (tree s below next) h = (
    brief_renamed (row context s.tag) s.payload h.0,
    order_of_tags (renamed f below) (subst TagsInOrder (sym (tags_renamed below)) (tags_of_order below h.1)),
    normal_renamed (context_below context s.tag) below h.2,
    normal_renamed context next h.3,
  )

-- Numbers.

pub map_alike : (f g : Bytes → Bytes) (ns : List Bytes) → ((name : Bytes) → IsAmong name ns → f name ≡ g name) → map f ns ≡ map g ns
map_alike f g [] h = refl
map_alike f g (name ∷ ns) h = λ i. h name (inl refl) i ∷ map_alike f g ns (λ n k. h n (inr k)) i

numbers : (n : ℕ) (ns : List Bytes) → AreDistinct ns → AreNumbered n (map (number_of n ns) ns)
numbers n [] d = tt
numbers n (name ∷ ns) d =
    (first, subst (AreNumbered (n + 1)) (sym (map_alike (number_of n (name ∷ ns)) (number_of (n + 1) ns) ns later)) (numbers (n + 1) ns d.1))
  where
    first : number_of n (name ∷ ns) name ≡ numbered n
    first = let e = same_bytes name name refl in rw e

    later : (other : Bytes) → IsAmong other ns → number_of n (name ∷ ns) other ≡ number_of (n + 1) ns other
    later other k = let e = other_bytes name other (λ p. d.0 (subst (λ x. IsAmong x ns) (sym p) k)) in rw e

pub among_map : (f : Bytes → Bytes) (ns : List Bytes) (name : Bytes) → IsAmong name (map f ns) → (old : Bytes) × IsAmong old ns × (name ≡ f old)
among_map f [] name h = absurd h
among_map f (first ∷ ns) name (inl e) = (first, inl refl, e)
among_map f (first ∷ ns) name (inr h) = let k = among_map f ns name h in (k.0, inr k.1, k.2)

module _ (f : Bytes → Bytes) (name : Bytes) where
  payload_named : (p : Payload) → Names p name → Names (renamed_payload f p) (f name)
  payload_named p h = ap (renamed_payload f) h

  pub renamed_named : (xs : Trees) → IsNamed xs name → IsNamed (renamed f xs) (f name)
  renamed_named none h = h
  renamed_named (tree s below next) (inl h) = inl (payload_named s.payload h)
  renamed_named (tree s below next) (inr (inl h)) = inr (inl (renamed_named below h))
  renamed_named (tree s below next) (inr (inr h)) = inr (inr (renamed_named next h))

-- Together.

used_checked : (used : Bytes → Bool) (d : Trees) (context : Context) (xs : Trees) → AreChecked d context xs → AreChecked d context (used_trees used xs)
used_checked used d context none h = tt
used_checked used d context (tree s below next) h = (h.0, h.1, used_checked used d context next h.2)

-- a chain from a document ends in one
pub ends_in_document : {edition : Edition} (d e : Trees) → is_document d ≡ true → Equivalent edition d e → is_document e ≡ true
ends_in_document d _ h done = h
ends_in_document d e h (then {b = b} k rest) = ends_in_document b e k.to rest

module _ (edition : Edition) (d : Trees) (v : is_document d ≡ true) (r : Resolved d) (h : Checked d) where
  used_is_checked : AreChecked d File (used_document d)
  used_is_checked = used_checked (is_named d) d File d h

  s : Trees
  s = sorted_document edition (used_document d)

  used_is_document : is_document (used_document d) ≡ true
  used_is_document = ends_in_document d (used_document d) v (reach_used edition d v r)

  s_is_document : is_document s ≡ true
  unfolding s
  s_is_document = ends_in_document (used_document d) s used_is_document (reach_sorted edition d (used_document d) used_is_document used_is_checked)

  pub canon_reached : Equivalent edition d (canon edition d)
  unfolding s
  canon_reached = both (reach_used edition d v r) (both (reach_sorted edition d (used_document d) used_is_document used_is_checked) (once (numbering_step edition s s_is_document (resolved_sorted edition d r))))

  pub canon_normal : Normal edition (canon edition d)
  unfolding s
  canon_normal =
      let f = number_of 1 (xrefs s) in
      record {
        places = normal_renamed edition f File s (document_normal edition d (used_document d) used_is_checked);
        records_in_order = order_of_tags (records_of (renamed f s)) (subst TagsInOrder (sym (records_tags_renamed edition f s)) (tags_of_order (records_of s) (records_in_order edition (used_document d))));
        xrefs_numbered = subst (AreNumbered 1) (sym (xrefs_renamed f s)) (numbers 1 (xrefs s) (resolved_sorted edition d r).distinct);
        xrefs_used = λ name k.
            let o = among_map f (xrefs s) name (subst (IsAmong name) (xrefs_renamed f s) k) in
            let u = is_named-from d o.0 ((used_xrefs d o.0 (sorted_xrefs edition o.0 (used_document d) o.1)).1) in
            let n = document_names_sorted edition o.0 (used_document d) (names_used (is_named d) d o.0 u) in
            subst (IsNamed (renamed f s)) (sym o.2) (renamed_named f o.0 s n);
      }

  pub canon_is_normal_form : IsNormalForm edition d (canon edition d)
  canon_is_normal_form = record { equivalent = canon_reached; normal = canon_normal }
