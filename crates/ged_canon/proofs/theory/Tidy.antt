-- Each checked document has one tidy form: the document with all that stands side by side in order.
use Rattle.std.proofs.Common.{◌≡◌, true, Some, refl, sym, ap, ◌∙◌, subst}
use Rattle.ged_line.specs.Bytes.{Bytes}
use Rattle.ged_tree.specs.Trees.{Trees}
use Rattle.ged_tree.specs.Documents.{is_document}
use Rattle.ged_link.specs.Links.{IsAmong, xrefs, IsNamed}
use Rattle.ged_schema.specs.declared.context.Context.TheVariants.{File}
use Rattle.ged_schema.specs.Checked.{Checked}
use Rattle.ged_canon.specs.declared.edition.Edition.{Edition}
use Rattle.ged_canon.specs.Steps.{done, then}
use Rattle.ged_canon.specs.Tidy.{PlaceStep, EquivalentInPlace, Tidy, IsTidyForm}
use Rattle.ged_canon.specs.TidyLaws.{IsKeptInPlace, NormalFormOfTidy, EqualTidyForms}
use Rattle.ged_canon.specs.inner.Working.{each_used, used_trees, sorted_document}
use Rattle.ged_canon.proofs.theory.Chains.{both, back, kept}
use Rattle.ged_canon.proofs.theory.Fixed.{is_named-true, used_all, sorted_document_same}
use Rattle.ged_canon.proofs.theory.InPlace.{in_place}
use Rattle.ged_canon.proofs.theory.Keeps.{somewhere_some}
use Rattle.ged_canon.proofs.theory.Moves.{somewhere_names, documents_alike}
use Rattle.ged_canon.proofs.theory.Normality.{document_normal, records_in_order}
use Rattle.ged_canon.proofs.theory.Reach.{reach_in_place}
use Rattle.ged_canon.proofs.theory.Undone.{somewhere_back, step_back}
use Rattle.ged_canon.proofs.theory.Used.{is_named-from, has_xref, xref_among}

-- Undone.

pub place_back : (edition : Edition) (d e : Trees) → PlaceStep edition d e → PlaceStep edition e d
place_back edition d e h = record { from = h.to; to = h.from; changed = somewhere_back edition File d e h.changed }

-- One form.

-- where each identifier is kept, trees stay as they are
pub all_kept : (xs : Trees) → used_trees each_used xs ≡ xs
all_kept xs = used_all each_used xs (λ name k. refl)

step_sorted : (edition : Edition) (d e : Trees) → PlaceStep edition d e → sorted_document edition d ≡ sorted_document edition e
step_sorted edition d e h =
    ap (sorted_document edition) (sym (all_kept d))
    ∙ documents_alike edition d e h.from h.to h.changed each_used
    ∙ ap (sorted_document edition) (all_kept e)

pub sorted_alike : (edition : Edition) (d e : Trees) → EquivalentInPlace edition d e → sorted_document edition d ≡ sorted_document edition e
sorted_alike edition d _ done = refl
sorted_alike edition d f (then {b = e} h k) = step_sorted edition d e h ∙ sorted_alike edition e f k

pub tidy_same : (edition : Edition) (d : Trees) → Tidy edition d → sorted_document edition d ≡ d
tidy_same edition d h = sorted_document_same edition d h.places h.records_in_order

pub unique : (edition : Edition) (d e : Trees) → EquivalentInPlace edition d e → Tidy edition d → Tidy edition e → d ≡ e
unique edition d e h m n = sym (tidy_same edition d m) ∙ sorted_alike edition d e h ∙ tidy_same edition e n

pub sorted_is_tidy_form : (edition : Edition) (d : Trees) → is_document d ≡ true → Checked d → IsTidyForm edition d (sorted_document edition d)
sorted_is_tidy_form edition d v h = record {
  equivalent = reach_in_place edition d d v h;
  tidy = record { places = document_normal edition d d h; records_in_order = records_in_order edition d };
}

pub equal : EqualTidyForms
equal edition d e m n a b = (
  (λ k. both a.equivalent (subst (λ x. EquivalentInPlace edition x e) (sym k) (back (place_back edition) b.equivalent))),
  (λ k. unique edition m n (both (back (place_back edition) a.equivalent) (both k b.equivalent)) a.tidy b.tidy),
)

pub normal_form_of_tidy : NormalFormOfTidy
normal_form_of_tidy edition d t e h =
    let there = in_place edition d t h.equivalent in (
      (λ n. record { equivalent = both there n.equivalent; normal = n.normal }),
      (λ n. record { equivalent = both (back (step_back edition) there) n.equivalent; normal = n.normal }),
    )

-- Names.

pub identifiers_kept : (name : Bytes) → IsKeptInPlace (λ d. IsAmong name (xrefs d))
identifiers_kept name edition d e h =
    kept (λ d. IsAmong name (xrefs d)) (λ x y k a. xref_among y name (somewhere_some edition (λ xref tag. xref ≡ Some name) File x y k.changed (has_xref x name a))) h

pub pointers_kept : (name : Bytes) → IsKeptInPlace (λ d. IsNamed d name)
pointers_kept name edition d e h =
    kept (λ d. IsNamed d name) (λ x y k a. is_named-from y name (sym (somewhere_names edition File x y k.changed name) ∙ is_named-true x name a)) h
