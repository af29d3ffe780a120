-- Records with the identifiers that they have: where no record has a new number, no name changes.
use Rattle.std.proofs.Common.{◌≡◌, true, List, [], Option, Some, None, refl, ap, ◌∙◌, subst}
use Rattle.ged_line.specs.Bytes.{Bytes}
use Rattle.ged_tree.specs.Trees.{Trees}
use Rattle.ged_tree.specs.Documents.{is_document}
use Rattle.ged_link.specs.declared.index.Index.{Index}
use Rattle.ged_link.specs.Indexes.{IsIndexOf}
use Rattle.ged_schema.specs.declared.context.Context.TheVariants.{File}
use Rattle.ged_schema.specs.Checked.{Checked}
use Rattle.ged_canon.specs.declared.edition.Edition.{Edition}
use Rattle.ged_canon.specs.declared.writer.rank.RankedSibling.{RankedSibling}
use Rattle.ged_canon.specs.inner.StepParts.{renamed_xref}
use Rattle.ged_canon.specs.Tidy.{IsTidyForm}
use Rattle.ged_canon.specs.CanonText.{CanonText}
use Rattle.ged_canon.specs.inner.Working.{each_used, used_xref, used_trees, sorted_document, number_of, IsNumberingOf}
use Rattle.ged_canon.specs.inner.Siblings.{sibling_trees}
use Rattle.ged_canon.specs.inner.CanonBytes.{numbered_siblings}
use Rattle.ged_canon.proofs.theory.Fixed.{trees_alone}
use Rattle.ged_canon.proofs.theory.InPlace.{in_place}
use Rattle.ged_canon.proofs.theory.Normality.{ends_in_document}
use Rattle.ged_canon.proofs.theory.Tidy.{all_kept, sorted_alike, tidy_same, sorted_is_tidy_form}

pub used_itself : (x : Option Bytes) → used_xref each_used x ≡ x
used_itself None = refl
used_itself (Some name) = refl

pub named_itself : (x : Option Bytes) → renamed_xref (number_of 1 []) (used_xref each_used x) ≡ x
named_itself None = refl
named_itself (Some name) = refl

-- no record has a new number
pub unnumbered : (d : Trees) (index : Index) → IsIndexOf d index → IsNumberingOf d [] index []
unnumbered d index h = (h, record { known = λ name k. absurd k; each = λ number name k. refl; unnamed = λ number k. refl })

pub sorted_stands : (edition : Edition) (d : Trees) → is_document d ≡ true → Checked d → is_document (sorted_document edition d) ≡ true
sorted_stands edition d v h = ends_in_document d (sorted_document edition d) v (in_place edition d (sorted_document edition d) (sorted_is_tidy_form edition d v h).equivalent)

module _ (edition : Edition) (d : Trees) (xs : List RankedSibling) (listed : sibling_trees each_used edition File d xs ≡ sorted_document edition (used_trees each_used d)) where
  pub kept_listed : sibling_trees each_used edition File d xs ≡ sorted_document edition d
  kept_listed = listed ∙ ap (sorted_document edition) (all_kept d)

  pub kept_document : numbered_siblings each_used edition [] d xs ≡ sorted_document edition d
  kept_document = trees_alone (number_of 1 []) (λ name. refl) (sibling_trees each_used edition File d xs) ∙ kept_listed

-- what spells the sorted document spells each tidy form
pub only_tidy : (edition : Edition) (d e : Trees) (text : Bytes) → CanonText (sorted_document edition d) text → IsTidyForm edition d e → CanonText e text
only_tidy edition d e text told form = subst (λ t. CanonText t text) (sorted_alike edition d e form.equivalent ∙ tidy_same edition e form.tidy) told
