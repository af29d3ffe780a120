-- What the proofs of the crates above cite of this crate, and they cite nothing else of its proofs: laws, as functions in
-- src/ state them, and that the canonical spelling of a document is a file that has the document.
pub use Rattle.ged_canon.proofs.theory.CanonFiles.{has_file}
use Rattle.std.specs.Prelude.{◌≡◌, true}
use Rattle.ged_tree.specs.Documents.{is_document}
use Rattle.ged_link.specs.Links.{Resolved}
use Rattle.ged_schema.specs.Checked.{Checked}
use Rattle.ged_schema.specs.Profiles.{NoNotice}
use Rattle.ged_canon.specs.Laws.{NormalFormIsUnique, IsKeptBySteps, EquivalentIsSymmetric, EquivalentIsTransitive, EditionsAgree, SecondIsNormalInFirst}
use Rattle.ged_canon.specs.TidyLaws.{TidyFormIsUnique, InPlaceIsSymmetric, InPlaceIsTransitive, InPlaceIsEquivalent, NormalFormOfTidy}
use Rattle.ged_canon.proofs.theory.Chains.{both, back, kept}
use Rattle.ged_canon.proofs.theory.Editions as editions
use Rattle.ged_canon.proofs.theory.InPlace as in_place
use Rattle.ged_canon.proofs.theory.Keeps.{step_resolved, step_checked}
use Rattle.ged_canon.proofs.theory.Normality.{ends_in_document}
use Rattle.ged_canon.proofs.theory.Noticed.{step_no_notice}
use Rattle.ged_canon.proofs.theory.Tidy as tidy
use Rattle.ged_canon.proofs.theory.Undone.{step_back}
use Rattle.ged_canon.proofs.theory.Unique as normal

pub symmetric : EquivalentIsSymmetric
symmetric edition d e h = back (step_back edition) h

pub transitive : EquivalentIsTransitive
transitive edition d e f h k = both h k

pub normal_form_is_unique : NormalFormIsUnique
normal_form_is_unique = normal.unique

pub document_kept : IsKeptBySteps (λ d. is_document d ≡ true)
document_kept edition d e h p = ends_in_document d e p h

pub resolved_kept : IsKeptBySteps Resolved
resolved_kept edition d e h = kept Resolved (step_resolved edition) h

pub checked_kept : IsKeptBySteps Checked
checked_kept edition d e h = kept Checked (step_checked edition) h

pub no_notice_kept : IsKeptBySteps NoNotice
no_notice_kept edition d e h = kept NoNotice (step_no_notice edition) h

pub one_second : EditionsAgree
one_second = editions.one_second

pub normal_in_first : SecondIsNormalInFirst
normal_in_first = editions.first_normal

pub in_place_symmetric : InPlaceIsSymmetric
in_place_symmetric edition d e h = back (tidy.place_back edition) h

pub in_place_transitive : InPlaceIsTransitive
in_place_transitive edition d e f h k = both h k

pub in_place_equivalent : InPlaceIsEquivalent
in_place_equivalent = in_place.in_place

pub tidy_form_is_unique : TidyFormIsUnique
tidy_form_is_unique = tidy.unique

pub normal_form_of_tidy : NormalFormOfTidy
normal_form_of_tidy = tidy.normal_form_of_tidy
