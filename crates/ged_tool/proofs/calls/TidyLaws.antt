-- What is promised of tidy bytes holds.
use Rattle.std.proofs.Common.{◌≡◌, ◌↔◌, sym, subst}
use Rattle.ged_line.specs.Bytes.{Bytes}
use Rattle.ged_tree.specs.Trees.{Trees}
use Rattle.ged_schema.specs.declared.profile.Profile.{Profile}
use Rattle.ged_canon.specs.declared.edition.Edition.{Edition}
use Rattle.ged_canon.specs.Steps.{Equivalent, done}
use Rattle.ged_canon.specs.Normal.{IsNormalForm}
use Rattle.ged_canon.specs.CanonText.{CanonText}
use Rattle.ged_canon.specs.Tidy.{EquivalentInPlace, Tidy}
use Rattle.ged_canon.proofs.CallerLemmas.{document_kept, resolved_kept, in_place_symmetric, in_place_transitive, in_place_equivalent, tidy_form_is_unique, normal_form_of_tidy, has_file}
use Rattle.ged_accept.specs.Accepted.{IsAccepted}
use Rattle.ged_tool.specs.Canon.{IsCanon}
use Rattle.ged_tool.specs.Tidied.{IsTidied, IsOwnTidied, TidyIsPromised}
use Rattle.ged_tool.proofs.calls.CanonLaws.{checked_on, one_accepted, one_spelling}
use Rattle.ged_accept.proofs.CallerLemmas.{of_document}

-- the tidy file is accepted with the tidy document
accepted_again : (profile : Profile) (edition : Edition) (file tidied : Bytes) (h : IsTidied profile edition file tidied) → IsAccepted profile tidied h.tidy
accepted_again profile edition file tidied h =
    let steps : Equivalent edition h.document h.tidy = in_place_equivalent edition h.document h.tidy h.tidy_form.equivalent in
    record {
      read = has_file h.tidy tidied (document_kept edition h.document h.tidy steps (of_document file h.document h.accepted.read)) h.spelled;
      resolved = resolved_kept edition h.document h.tidy steps h.accepted.resolved;
      checked = checked_on profile edition h.document h.tidy steps h.accepted.checked;
    }

-- of two files the tidy bytes are equal exactly when the one's document becomes the other's by steps at places
equal_tidied : (profile : Profile) (edition : Edition) (file tidied other other_tidied : Bytes) → (h : IsTidied profile edition file tidied) → (k : IsTidied profile edition other other_tidied)
    → (tidied ≡ other_tidied) ↔ EquivalentInPlace edition h.document k.document
equal_tidied profile edition file tidied other other_tidied h k = (
  λ same.
      let again : IsAccepted profile tidied k.tidy = subst (λ (bytes : Bytes). IsAccepted profile bytes k.tidy) (sym same) (accepted_again profile edition other other_tidied k) in
      let tidy : h.tidy ≡ k.tidy = one_accepted profile profile tidied h.tidy k.tidy (accepted_again profile edition file tidied h) again in
      in_place_transitive edition h.document h.tidy k.document h.tidy_form.equivalent
      (subst (λ (t : Trees). EquivalentInPlace edition t k.document) (sym tidy) (in_place_symmetric edition k.document k.tidy k.tidy_form.equivalent)),
  λ steps. one_spelling h.tidy k.tidy tidied other_tidied
      (tidy_form_is_unique edition h.tidy k.tidy
      (in_place_transitive edition h.tidy h.document k.tidy (in_place_symmetric edition h.document h.tidy h.tidy_form.equivalent)
      (in_place_transitive edition h.document k.document k.tidy steps k.tidy_form.equivalent)) h.tidy_form.tidy k.tidy_form.tidy)
      h.spelled k.spelled,
)

-- the canonical spelling of a tidy document, with which it is accepted, is its own tidy spelling alone
own_tidied : (profile : Profile) (edition : Edition) (d : Trees) (bytes : Bytes) → IsAccepted profile bytes d → Tidy edition d → CanonText d bytes → IsOwnTidied profile edition bytes
own_tidied profile edition d bytes accepted tidy spelled = record {
  own = record { document = d; tidy = d; accepted = accepted; tidy_form = record { equivalent = done; tidy = tidy }; spelled = spelled };
  no_other = λ again k.
      let same : k.document ≡ d = one_accepted profile profile bytes k.document d k.accepted accepted in
      one_spelling k.tidy d again bytes
      (sym (tidy_form_is_unique edition d k.tidy (subst (λ (t : Trees). EquivalentInPlace edition t k.tidy) same k.tidy_form.equivalent) tidy k.tidy_form.tidy))
      k.spelled spelled;
}

-- the canonical bytes of a file are those of its tidy bytes
same_canon : (profile : Profile) (edition : Edition) (file tidied canonical : Bytes) (h : IsTidied profile edition file tidied) → IsCanon profile edition file canonical ↔ IsCanon profile edition tidied canonical
same_canon profile edition file tidied canonical h =
    let again = accepted_again profile edition file tidied h in (
      λ k.
          let same : k.document ≡ h.document = one_accepted profile profile file k.document h.document k.accepted h.accepted in
          record {
            document = h.tidy;
            normal = k.normal;
            accepted = again;
            normal_form = (normal_form_of_tidy edition h.document h.tidy k.normal h.tidy_form).1 (subst (λ (t : Trees). IsNormalForm edition t k.normal) same k.normal_form);
            spelled = k.spelled;
          },
      λ k.
          let same : k.document ≡ h.tidy = one_accepted profile profile tidied k.document h.tidy k.accepted again in
          record {
            document = h.document;
            normal = k.normal;
            accepted = h.accepted;
            normal_form = (normal_form_of_tidy edition h.document h.tidy k.normal h.tidy_form).0 (subst (λ (t : Trees). IsNormalForm edition t k.normal) same k.normal_form);
            spelled = k.spelled;
          },
    )

pub headline : TidyIsPromised
headline profile edition file tidied h =
    let again = accepted_again profile edition file tidied h in
    record {
      equal_exactly_when = λ other other_tidied d e accepted other_accepted k.
          let same = one_accepted profile profile file h.document d h.accepted accepted in
          let other_same = one_accepted profile profile other k.document e k.accepted other_accepted in
          rw (← same, ← other_same) (equal_tidied profile edition file tidied other other_tidied h k);
      twice_is_once = own_tidied profile edition h.tidy tidied again h.tidy_form.tidy h.spelled;
      accepted = record { document = h.tidy; accepted = again; tidy = h.tidy_form.tidy; spelled = h.spelled };
      same_canon = λ canonical. same_canon profile edition file tidied canonical h;
    }
