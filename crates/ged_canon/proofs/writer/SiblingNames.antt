-- The names of siblings that pointers name.
use Rattle.std.proofs.Common.{◌≡◌, ℕ, ◌+◌, ◌<◌, true, List, [], ◌∷◌, ◌++◌, length, take, drop, get_or, Option, Some, None, inl, refl, sym, ap, ◌∙◌, subst}
use Rattle.std.proofs.lemmas.List.{append-nil, take-append-drop, take_more}
use Rattle.ged_line.specs.Bytes.{Bytes}
use Rattle.ged_tree.specs.Trees.{Trees, records_of}
use Rattle.ged_tree.specs.Documents.{is_document}
use Rattle.ged_tree.specs.Places.{structure_at}
use Rattle.ged_link.specs.Links.{IsAmong, AreDistinct, IsRecordNumber, Resolved}
use Rattle.ged_link.specs.inner.Identifiers.{with_xref}
use Rattle.ged_canon.specs.declared.writer.rank.RankedSibling.{RankedSibling}
use Rattle.ged_canon.specs.inner.Siblings.{sibling_names}
use Rattle.ged_canon.specs.inner.Working.{is_named, used_xref}
use Rattle.ged_canon.proofs.writer.NewNumbers.{among_front, among_back, distinct_front, distinct_apart, numbered_among}
use Rattle.ged_canon.proofs.theory.Used.{unused}
use Rattle.ged_canon.proofs.writer.Parts.{document_xrefs}

module _ (d : Trees) where
  siblings_append : (xs ys : List RankedSibling) → sibling_names d (xs ++ ys) ≡ sibling_names d xs ++ sibling_names d ys
  siblings_append [] ys = refl
  siblings_append (x ∷ xs) ys = ap (with_xref (used_xref (is_named d) (structure_at d x.place).xref)) (siblings_append xs ys) ∙ joined (used_xref (is_named d) (structure_at d x.place).xref)
    where
      joined : (x : Option Bytes) → with_xref x (sibling_names d xs ++ sibling_names d ys) ≡ with_xref x (sibling_names d xs) ++ sibling_names d ys
      joined None = refl
      joined (Some name) = refl

  module _ (xs : List RankedSibling) (n : ℕ) (x other : RankedSibling) (inside : n < length xs) (is : get_or xs n other ≡ x) where
    pub siblings_more : sibling_names d (take (n + 1) xs) ≡ sibling_names d (take n xs) ++ with_xref (used_xref (is_named d) (structure_at d x.place).xref) []
    siblings_more = ap (sibling_names d) (take_more xs n other inside ∙ ap (λ q. take n xs ++ q ∷ []) is) ∙ siblings_append (take n xs) (x ∷ [])

    pub unchanged : used_xref (is_named d) (structure_at d x.place).xref ≡ None → sibling_names d (take (n + 1) xs) ≡ sibling_names d (take n xs)
    unchanged none_kept = siblings_more ∙ ap (λ y. sibling_names d (take n xs) ++ with_xref y []) none_kept ∙ append-nil (sibling_names d (take n xs))

    whole : sibling_names d xs ≡ sibling_names d (take (n + 1) xs) ++ sibling_names d (drop (n + 1) xs)
    whole = ap (sibling_names d) (sym (take-append-drop (n + 1) xs)) ∙ siblings_append (take (n + 1) xs) (drop (n + 1) xs)

    module _ (name : Bytes) (named : used_xref (is_named d) (structure_at d x.place).xref ≡ Some name) where
      pub siblings_named : sibling_names d (take (n + 1) xs) ≡ sibling_names d (take n xs) ++ name ∷ []
      siblings_named = siblings_more ∙ ap (λ y. sibling_names d (take n xs) ++ with_xref y []) named

      pub fresh_sibling : AreDistinct (sibling_names d xs) → IsAmong name (sibling_names d (take n xs)) → ⊥
      fresh_sibling distinct k =
          let front = distinct_front (sibling_names d (take (n + 1) xs)) (sibling_names d (drop (n + 1) xs)) (subst AreDistinct whole distinct) in
          distinct_apart (sibling_names d (take n xs)) (name ∷ []) name (subst AreDistinct siblings_named front) k (inl refl)

      pub sibling_among : IsAmong name (sibling_names d xs)
      sibling_among = subst (IsAmong name) (sym whole) (among_front (sibling_names d (take (n + 1) xs)) (sibling_names d (drop (n + 1) xs)) name
          (subst (IsAmong name) (sym siblings_named) (among_back (sibling_names d (take n xs)) (name ∷ []) name (inl refl))))

-- what no record has as its name is not named
pub unknown_dropped : (d : Trees) (name : Bytes) → Resolved d → is_document d ≡ true → ((k : ℕ) → IsRecordNumber d k name → ⊥) → used_xref (is_named d) (Some name) ≡ None
unknown_dropped d name r v unknown =
    let e = unused d name (λ h. let at = numbered_among (records_of d) name (subst (IsAmong name) (document_xrefs d v) (r.found name h)) in unknown at.0 at.1) in rw e
