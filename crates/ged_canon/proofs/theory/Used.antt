-- Which names a document has, after a sort and after the unused names are dropped.
use Rattle.std.proofs.Common.{◌≡◌, Bool, true, false, cond, ◌||◌, List, [], ◌∷◌, Option, Some, None, refl, sym, ap, ◌∙◌, ◌⊎◌, inl, inr, ⊎_elim}
use Rattle.std.proofs.lemmas.Bool.{false≢true, or_cases, false_from_ne_true}
use Rattle.ged_line.specs.Bytes.{Bytes}
use Rattle.ged_tree.specs.declared.payload.Payload.{Payload}
use Rattle.ged_tree.specs.declared.payload.Payload.TheVariants.{Void, Pointer, Text}
use Rattle.ged_tree.specs.Trees.{Structure, Trees, none, tree}
use Rattle.ged_link.specs.Links.{SomeTree, IsAmong, xrefs, IsNamed}
use Rattle.ged_link.specs.inner.Identifiers.{with_xref, Names}
use Rattle.ged_schema.specs.declared.context.Context.{Context}
use Rattle.ged_schema.specs.declared.context.Context.TheVariants.{File}
use Rattle.ged_schema.specs.Rows.{Row}
use Rattle.ged_schema.specs.Tables.{row, context_below}
use Rattle.ged_canon.specs.declared.edition.Edition.{Edition}
use Rattle.ged_canon.specs.inner.Working.{falls, put, names, is_named, used_xref, used_trees, used_document, brief, brief_structure, sorted, sorted_document}
use Rattle.ged_canon.proofs.theory.Texts.{equal_bytes}
use Rattle.ged_canon.proofs.theory.Fixed.{with_others}

-- The test of use.

names-from : (p : Payload) (name : Bytes) → names p name ≡ true → Names p name
names-from Void name h = absurd (false≢true h)
names-from (Pointer target) name h = ap Pointer (equal_bytes target name h)
names-from (Text lines) name h = absurd (false≢true h)

pub is_named-from : (xs : Trees) (name : Bytes) → is_named xs name ≡ true → IsNamed xs name
is_named-from none name h = absurd (false≢true h)
is_named-from (tree s below next) name h =
    let b = is_named-from below name in
    let r = is_named-from next name in
    ⊎_elim (λ p. inl (names-from s.payload name p)) (λ k. inr (⊎_elim (λ p. inl (b p)) (λ p. inr (r p)) (or_cases (is_named below name) (is_named next name) k))) (or_cases (names s.payload name) (is_named below name || is_named next name) h)

pub unused : (d : Trees) (name : Bytes) → (IsNamed d name → ⊥) → is_named d name ≡ false
unused d name h = false_from_ne_true (is_named d name) (λ e. h (is_named-from d name e))

-- Trees into which a tree is put are that tree and the others.

module _ (P : Structure → Trees → Type 0) where
  pub some_put : (s : Structure) (b xs : Trees) → SomeTree P (put s b xs) → P s b ⊎ SomeTree P xs
  some_put s b none h = h
  some_put s b (tree x y xs) h = by (falls s.tag x.tag) (some_put s b xs) h
    where
      by : (t : Bool) → (SomeTree P (put s b xs) → P s b ⊎ SomeTree P xs) → SomeTree P (cond t (tree x y (put s b xs)) (tree s b (tree x y xs))) → P s b ⊎ (P x y ⊎ SomeTree P xs)
      by true f k = ⊎_elim (λ p. inr (inl p)) (λ q. ⊎_elim (λ p. inl p) (λ p. inr (inr p)) (f q)) k
      by false f k = k

  pub put_some : (s : Structure) (b xs : Trees) → P s b ⊎ SomeTree P xs → SomeTree P (put s b xs)
  put_some s b none h = h
  put_some s b (tree x y xs) h = by (falls s.tag x.tag) (put_some s b xs) h
    where
      by : (t : Bool) → (P s b ⊎ SomeTree P xs → SomeTree P (put s b xs)) → P s b ⊎ (P x y ⊎ SomeTree P xs) → SomeTree P (cond t (tree x y (put s b xs)) (tree s b (tree x y xs)))
      by true f (inl p) = inr (f (inl p))
      by true f (inr (inl p)) = inl p
      by true f (inr (inr p)) = inr (f (inr p))
      by false f k = k

-- Pointers.

-- a tree with a pointer of this name
abbrev pub TreeNames : Bytes → Structure → Trees → Type 0
TreeNames name s below = Names s.payload name ⊎ IsNamed below name

some_names : (name : Bytes) (xs : Trees) → SomeTree (TreeNames name) xs → IsNamed xs name
some_names name none h = h
some_names name (tree s below next) h = let r = some_names name next in ⊎_elim (λ k. ⊎_elim (λ p. inl p) (λ b. inr (inl b)) k) (λ k. inr (inr (r k))) h

names_some : (name : Bytes) (xs : Trees) → IsNamed xs name → SomeTree (TreeNames name) xs
names_some name none h = h
names_some name (tree s below next) h = let r = names_some name next in ⊎_elim (λ p. inl (inl p)) (λ k. ⊎_elim (λ b. inl (inr b)) (λ q. inr (r q)) k) h

module _ (edition : Edition) (r : Option Row) (name : Bytes) where
  brief_names : (p : Payload) → Names (brief edition r p) name → Names p name
  brief_names Void h = h
  brief_names (Pointer target) h = h
  brief_names (Text []) h = h
  brief_names (Text (line ∷ [])) h = cc
  brief_names (Text (line ∷ (next ∷ lines))) h = h

  names_brief : (p : Payload) → Names p name → Names (brief edition r p) name
  names_brief Void h = h
  names_brief (Pointer target) h = h
  names_brief (Text []) h = h
  names_brief (Text (line ∷ [])) h = cc
  names_brief (Text (line ∷ (next ∷ lines))) h = h

-- the names of sorted trees are those of the trees
module _ (edition : Edition) (name : Bytes) where
  sorted_names : (context : Context) (xs : Trees) → IsNamed (sorted edition context xs) name → IsNamed xs name
  sorted_names context none h = h
  sorted_names context (tree s below next) h =
      let b = sorted_names (context_below context s.tag) below in
      let r = sorted_names context next in
      let deep = sorted edition (context_below context s.tag) below in
      let rest = sorted edition context next in
      ⊎_elim
      (λ k. ⊎_elim (λ p. inl (brief_names edition (row context s.tag) name s.payload p)) (λ q. inr (inl (b q))) k)
      (λ q. inr (inr (r (some_names name rest q))))
      (some_put (TreeNames name) (brief_structure edition context s) deep rest (names_some name (put (brief_structure edition context s) deep rest) h))

  names_sorted : (context : Context) (xs : Trees) → IsNamed xs name → IsNamed (sorted edition context xs) name
  names_sorted context none h = h
  names_sorted context (tree s below next) h =
      let b = names_sorted (context_below context s.tag) below in
      let r = names_sorted context next in
      let deep = sorted edition (context_below context s.tag) below in
      let rest = sorted edition context next in
      some_names name (put (brief_structure edition context s) deep rest) (put_some (TreeNames name) (brief_structure edition context s) deep rest
      (⊎_elim (λ p. inl (inl (names_brief edition (row context s.tag) name s.payload p))) (λ k. ⊎_elim (λ q. inl (inr (b q))) (λ q. inr (names_some name rest (r q))) k) h))

  pub document_sorted_names : (d : Trees) → IsNamed (sorted_document edition d) name → IsNamed d name
  document_sorted_names none h = h
  document_sorted_names (tree s below next) h = ⊎_elim (λ p. inl (brief_names edition (row File s.tag) name s.payload p)) (λ k. inr (⊎_elim (λ q. inl (sorted_names (context_below File s.tag) below q)) (λ q. inr (sorted_names File next q)) k)) h

  pub document_names_sorted : (d : Trees) → IsNamed d name → IsNamed (sorted_document edition d) name
  document_names_sorted none h = h
  document_names_sorted (tree s below next) h = ⊎_elim (λ p. inl (names_brief edition (row File s.tag) name s.payload p)) (λ k. inr (⊎_elim (λ q. inl (names_sorted (context_below File s.tag) below q)) (λ q. inr (names_sorted File next q)) k)) h

-- Identifiers.

-- a tree with this identifier
abbrev pub HasXref : Bytes → Structure → Trees → Type 0
HasXref name s below = s.xref ≡ Some name

with_xref_cases : (x : Option Bytes) (others : List Bytes) (name : Bytes) → IsAmong name (with_xref x others) → (x ≡ Some name) ⊎ IsAmong name others
with_xref_cases None others name h = inr h
with_xref_cases (Some first) others name (inl e) = inl (ap Some (sym e))
with_xref_cases (Some first) others name (inr h) = inr h

pub some_some : (a b : Bytes) → ◌≡◌ {A = Option Bytes} (Some a) (Some b) → a ≡ b
some_some a b e = cc

pub none_some : (name : Bytes) → ◌≡◌ {A = Option Bytes} None (Some name) → ⊥
none_some name e = cc

pub with_xref_here : (x : Option Bytes) (others : List Bytes) (name : Bytes) → x ≡ Some name → IsAmong name (with_xref x others)
with_xref_here None others name e = absurd (none_some name e)
with_xref_here (Some first) others name e = inl (sym (some_some first name e))

pub has_xref : (xs : Trees) (name : Bytes) → IsAmong name (xrefs xs) → SomeTree (HasXref name) xs
has_xref none name h = h
has_xref (tree s below next) name h = let rest = has_xref next name in ⊎_elim (λ e. inl e) (λ k. inr (rest k)) (with_xref_cases s.xref (xrefs next) name h)

pub xref_among : (xs : Trees) (name : Bytes) → SomeTree (HasXref name) xs → IsAmong name (xrefs xs)
xref_among none name h = h
xref_among (tree s below next) name h = let rest = xref_among next name in ⊎_elim (λ e. with_xref_here s.xref (xrefs next) name e) (λ k. with_others s.xref (xrefs next) name (rest k)) h

module _ (edition : Edition) (name : Bytes) where
  pub some_sorted_xref : (context : Context) (xs : Trees) → SomeTree (HasXref name) (sorted edition context xs) → SomeTree (HasXref name) xs
  some_sorted_xref context none h = h
  some_sorted_xref context (tree s below next) h = let rest = some_sorted_xref context next in ⊎_elim (λ p. inl p) (λ q. inr (rest q)) (some_put (HasXref name) (brief_structure edition context s) (sorted edition (context_below context s.tag) below) (sorted edition context next) h)

  sorted_some_xref : (context : Context) (xs : Trees) → SomeTree (HasXref name) xs → SomeTree (HasXref name) (sorted edition context xs)
  sorted_some_xref context none h = h
  sorted_some_xref context (tree s below next) h = let rest = sorted_some_xref context next in put_some (HasXref name) (brief_structure edition context s) (sorted edition (context_below context s.tag) below) (sorted edition context next) (⊎_elim (λ p. inl p) (λ q. inr (rest q)) h)

  some_document_xref : (d : Trees) → SomeTree (HasXref name) (sorted_document edition d) → SomeTree (HasXref name) d
  some_document_xref none h = h
  some_document_xref (tree s below next) h = ⊎_elim (λ p. inl p) (λ q. inr (some_sorted_xref File next q)) h

  document_some_xref : (d : Trees) → SomeTree (HasXref name) d → SomeTree (HasXref name) (sorted_document edition d)
  document_some_xref none h = h
  document_some_xref (tree s below next) h = ⊎_elim (λ p. inl p) (λ q. inr (sorted_some_xref File next q)) h

  pub sorted_xrefs : (d : Trees) → IsAmong name (xrefs (sorted_document edition d)) → IsAmong name (xrefs d)
  sorted_xrefs d h = xref_among d name (some_document_xref d (has_xref (sorted_document edition d) name h))

  pub xrefs_sorted : (d : Trees) → IsAmong name (xrefs d) → IsAmong name (xrefs (sorted_document edition d))
  xrefs_sorted d h = xref_among (sorted_document edition d) name (document_some_xref d (has_xref d name h))

-- Unused names dropped.

used_xref_from : (used : Bytes → Bool) (x : Option Bytes) (name : Bytes) → used_xref used x ≡ Some name → (x ≡ Some name) × (used name ≡ true)
used_xref_from used None name e = absurd (none_some name e)
used_xref_from used (Some first) name e = by (used first) refl e
  where
    by : (t : Bool) → used first ≡ t → cond t (Some first) None ≡ Some name → (◌≡◌ {A = Option Bytes} (Some first) (Some name)) × (used name ≡ true)
    by true u k = (k, ap used (sym (some_some first name k)) ∙ u)
    by false u k = absurd (none_some name k)

used_xref_to : (used : Bytes → Bool) (x : Option Bytes) (name : Bytes) → x ≡ Some name → used name ≡ true → used_xref used x ≡ Some name
used_xref_to used None name e u = absurd (none_some name e)
used_xref_to used (Some first) name e u = let k : used first ≡ true = ap used (some_some first name e) ∙ u in rw k e

pub used_some : (used : Bytes → Bool) (name : Bytes) (xs : Trees) → SomeTree (HasXref name) (used_trees used xs) → SomeTree (HasXref name) xs × (used name ≡ true)
used_some used name none h = absurd h
used_some used name (tree s below next) h =
    let rest = used_some used name next in
    ⊎_elim (λ e. let k = used_xref_from used s.xref name e in (inl k.0, k.1)) (λ q. let k = rest q in (inr k.0, k.1)) h

some_used : (used : Bytes → Bool) (name : Bytes) (xs : Trees) → used name ≡ true → SomeTree (HasXref name) xs → SomeTree (HasXref name) (used_trees used xs)
some_used used name none u h = h
some_used used name (tree s below next) u h = let rest = some_used used name next u in ⊎_elim (λ e. inl (used_xref_to used s.xref name e u)) (λ q. inr (rest q)) h

pub used_xrefs : (d : Trees) (name : Bytes) → IsAmong name (xrefs (used_document d)) → IsAmong name (xrefs d) × (is_named d name ≡ true)
used_xrefs d name h = let k = used_some (is_named d) name d (has_xref (used_document d) name h) in (xref_among d name k.0, k.1)

pub xrefs_used : (d : Trees) (name : Bytes) → IsAmong name (xrefs d) → is_named d name ≡ true → IsAmong name (xrefs (used_document d))
xrefs_used d name h u = xref_among (used_document d) name (some_used (is_named d) name d u (has_xref d name h))

pub used_names : (used : Bytes → Bool) (xs : Trees) (name : Bytes) → IsNamed (used_trees used xs) name → IsNamed xs name
used_names used none name h = h
used_names used (tree s below next) name h = let rest = used_names used next name in ⊎_elim (λ p. inl p) (λ k. inr (⊎_elim (λ b. inl b) (λ q. inr (rest q)) k)) h

pub names_used : (used : Bytes → Bool) (xs : Trees) (name : Bytes) → IsNamed xs name → IsNamed (used_trees used xs) name
names_used used none name h = h
names_used used (tree s below next) name h = let rest = names_used used next name in ⊎_elim (λ p. inl p) (λ k. inr (⊎_elim (λ b. inl b) (λ q. inr (rest q)) k)) h
