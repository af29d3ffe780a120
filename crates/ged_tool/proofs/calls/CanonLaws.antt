-- What is promised of canonical bytes holds.
use Rattle.std.proofs.Common.{◌≡◌, ◌↔◌, sym, ap, ◌∙◌, subst}
use Rattle.ged_line.specs.Bytes.{Bytes}
use Rattle.ged_line.specs.Spelling.{file_of}
use Rattle.ged_tree.specs.Trees.{Trees}
use Rattle.ged_tree.specs.DocumentLines.{document_lines}
use Rattle.ged_schema.specs.declared.profile.Profile.{Profile}
use Rattle.ged_schema.specs.declared.profile.Profile.TheVariants.{Lenient, Strict}
use Rattle.ged_schema.specs.Profiles.{CheckedAs}
use Rattle.ged_canon.specs.declared.edition.Edition.{Edition}
use Rattle.ged_canon.specs.declared.edition.Edition.TheVariants.{First, Second}
use Rattle.ged_canon.specs.Steps.{Equivalent, done}
use Rattle.ged_canon.specs.Normal.{Normal, IsNormalForm}
use Rattle.ged_canon.specs.CanonText.{CanonText}
use Rattle.ged_canon.proofs.CallerLemmas.{symmetric, transitive, normal_form_is_unique, document_kept, resolved_kept, checked_kept, no_notice_kept, one_second, normal_in_first, has_file}
use Rattle.ged_accept.specs.Accepted.{IsAccepted}
use Rattle.ged_tool.specs.Canon.{IsCanon}
use Rattle.ged_tool.specs.Headline.{IsOwnCanon, Headline, AgreesWithFirst}
use Rattle.ged_accept.proofs.CallerLemmas.{one_of_file, of_document}

-- steps keep what a profile asks
pub checked_on : (profile : Profile) (edition : Edition) (d e : Trees) → Equivalent edition d e → CheckedAs profile d → CheckedAs profile e
checked_on Lenient edition d e steps h = checked_kept edition d e steps h
checked_on Strict edition d e steps h = (checked_kept edition d e steps h.0, no_notice_kept edition d e steps h.1)

-- the canonical file is accepted with the normal document
accepted_again : (profile : Profile) (edition : Edition) (file canonical : Bytes) (h : IsCanon profile edition file canonical) → IsAccepted profile canonical h.normal
accepted_again profile edition file canonical h =
    let steps : Equivalent edition h.document h.normal = h.normal_form.equivalent in
    record {
      read = has_file h.normal canonical (document_kept edition h.document h.normal steps (of_document file h.document h.accepted.read)) h.spelled;
      resolved = resolved_kept edition h.document h.normal steps h.accepted.resolved;
      checked = checked_on profile edition h.document h.normal steps h.accepted.checked;
    }

-- two accepted spellings of one file are of one document
pub one_accepted : (profile other_profile : Profile) (file : Bytes) (d e : Trees) → IsAccepted profile file d → IsAccepted other_profile file e → d ≡ e
one_accepted profile other_profile file d e h k = one_of_file file d e h.read k.read

-- equal canonical bytes are those of one normal document
one_normal : (profile other_profile : Profile) (edition other_edition : Edition) (file other canonical : Bytes)
    (h : IsCanon profile edition file canonical) (k : IsCanon other_profile other_edition other canonical) → h.normal ≡ k.normal
one_normal profile other_profile edition other_edition file other canonical h k =
    one_accepted profile other_profile canonical h.normal k.normal (accepted_again profile edition file canonical h) (accepted_again other_profile other_edition other canonical k)

-- one document has one canonical spelling
pub one_spelling : (d e : Trees) (bytes other : Bytes) → d ≡ e → CanonText d bytes → CanonText e other → bytes ≡ other
one_spelling d e bytes other same spelled other_spelled = spelled ∙ ap (λ (t : Trees). file_of (document_lines t)) same ∙ sym other_spelled

-- of two files the canonical bytes are equal exactly when the one's document becomes the other's
equal_canons : (profile : Profile) (edition : Edition) (file canonical other other_canonical : Bytes) → (h : IsCanon profile edition file canonical) → (k : IsCanon profile edition other other_canonical)
    → (canonical ≡ other_canonical) ↔ Equivalent edition h.document k.document
equal_canons profile edition file canonical other other_canonical h k = (
  λ same.
      let normal : h.normal ≡ k.normal = one_normal profile profile edition edition file other canonical h (subst (λ (bytes : Bytes). IsCanon profile edition other bytes) (sym same) k) in
      transitive edition h.document h.normal k.document h.normal_form.equivalent
      (subst (λ (t : Trees). Equivalent edition t k.document) (sym normal) (symmetric edition k.document k.normal k.normal_form.equivalent)),
  λ steps. one_spelling h.normal k.normal canonical other_canonical
      (normal_form_is_unique edition h.normal k.normal
      (transitive edition h.normal h.document k.normal (symmetric edition h.document h.normal h.normal_form.equivalent)
      (transitive edition h.document k.document k.normal steps k.normal_form.equivalent)) h.normal_form.normal k.normal_form.normal)
      h.spelled k.spelled,
)

-- the canonical spelling of a normal document, with which it is accepted, is its own canonical spelling alone
own_canon : (profile : Profile) (edition : Edition) (d : Trees) (bytes : Bytes) → IsAccepted profile bytes d → Normal edition d → CanonText d bytes → IsOwnCanon profile edition bytes
own_canon profile edition d bytes accepted normal spelled = record {
  own = record { document = d; normal = d; accepted = accepted; normal_form = record { equivalent = done; normal = normal }; spelled = spelled };
  no_other = λ again k.
      let same : k.document ≡ d = one_accepted profile profile bytes k.document d k.accepted accepted in
      one_spelling k.normal d again bytes
      (sym (normal_form_is_unique edition d k.normal (subst (λ (t : Trees). Equivalent edition t k.normal) same k.normal_form.equivalent) normal k.normal_form.normal))
      k.spelled spelled;
}

pub headline : (profile : Profile) (edition : Edition) (file canonical : Bytes) → IsCanon profile edition file canonical → Headline profile edition file canonical
headline profile edition file canonical h =
    let again = accepted_again profile edition file canonical h in
    record {
      equal_exactly_when = λ other other_canonical d e accepted other_accepted k.
          let same = one_accepted profile profile file h.document d h.accepted accepted in
          let other_same = one_accepted profile profile other k.document e k.accepted other_accepted in
          rw (← same, ← other_same) (equal_canons profile edition file canonical other other_canonical h k);
      twice_is_once = own_canon profile edition h.normal canonical again h.normal_form.normal h.spelled;
      accepted = record { document = h.normal; accepted = again; normal = h.normal_form.normal; spelled = h.spelled };
    }

pub agrees_with_first : (profile : Profile) (file canonical : Bytes) → IsCanon profile Second file canonical → AgreesWithFirst profile file canonical
agrees_with_first profile file canonical h = record {
  equal_where_first = λ other first other_canonical a b k.
      let d : a.document ≡ h.document = one_accepted profile profile file a.document h.document a.accepted h.accepted in
      let e : b.document ≡ k.document = one_accepted profile profile other b.document k.document b.accepted k.accepted in
      let m : a.normal ≡ b.normal = one_normal profile profile First First file other first a b in
      one_spelling h.normal k.normal canonical other_canonical
      (one_second h.document k.document a.normal h.normal k.normal
      (subst (λ (t : Trees). IsNormalForm First t a.normal) d a.normal_form)
      (subst (λ (t : Trees). IsNormalForm First k.document t) (sym m) (subst (λ (t : Trees). IsNormalForm First t b.normal) e b.normal_form))
      h.normal_form k.normal_form)
      h.spelled k.spelled;
  own_first = own_canon profile First h.normal canonical (accepted_again profile Second file canonical h) (normal_in_first h.normal h.normal_form.normal) h.spelled;
}
