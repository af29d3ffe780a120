-- Which records keep their identifiers.
use Rattle.std.proofs.Common.{◌≡◌, ℕ, Option, Some, None, slice_get, refl, sym, ap, ◌∙◌, subst}
use Rattle.ged_line.specs.Bytes.{Bytes}
use Rattle.ged_tree.specs.Trees.{Trees, records_of}
use Rattle.ged_link.specs.Links.{IsNamed, identifiers, IsUsed}
use Rattle.ged_canon.specs.inner.Working.{is_named, used_xref}
use Rattle.ged_canon.specs.inner.Siblings.{TellsUsed}
use Rattle.ged_canon.proofs.theory.Fixed.{is_named-true}
use Rattle.ged_canon.proofs.theory.Used.{unused}

module _ (d : Trees) (number : ℕ) (name : Bytes) (here : slice_get (identifiers (records_of d)) number ≡ Some (Some name)) where
  named_used : IsUsed d number → IsNamed d name
  named_used used =
      let q : ◌≡◌ {A = Option (Option Bytes)} (Some (Some used.0)) (Some (Some name)) = sym used.1 ∙ here in
      let same : used.0 ≡ name = cc in
      subst (IsNamed d) same used.2

  pub kept_used : IsUsed d number → used_xref (is_named d) (Some name) ≡ Some name
  kept_used used = let e = is_named-true d name (named_used used) in rw e

  pub dropped_unused : (IsUsed d number → ⊥) → used_xref (is_named d) (Some name) ≡ None
  dropped_unused not_used = let e = unused d name (λ h. not_used (name, here, h)) in rw e

-- what is told of a record whose identifier, if it has one, is known
module _ (d : Trees) (number : ℕ) where
  pub tells_used : (xref : Option Bytes) → slice_get (identifiers (records_of d)) number ≡ Some xref → IsUsed d number → TellsUsed d xref (Some number)
  tells_used xref here used =
      let e : ◌≡◌ {A = Option (Option Bytes)} (Some xref) (Some (Some used.0)) = sym here ∙ used.1 in
      let is : xref ≡ Some used.0 = cc in
      (used.0, used.1, ap (used_xref (is_named d)) is ∙ kept_used d number used.0 used.1 used)

  pub tells_unused : (xref : Option Bytes) → slice_get (identifiers (records_of d)) number ≡ Some xref → (IsUsed d number → ⊥) → TellsUsed d xref None
  tells_unused None here unused_here = refl
  tells_unused (Some name) here unused_here = dropped_unused d number name here unused_here
