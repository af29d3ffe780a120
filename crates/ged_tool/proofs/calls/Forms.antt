-- Two files are compared by their bytes in a form.
use Rattle.std.proofs.Common.{◌≡◌, ◌↔◌, Bool, true, IsTrue, refl}
use Rattle.ged_line.specs.Bytes.{Bytes}
use Rattle.ged_tree.specs.Trees.{Trees}
use Rattle.ged_schema.specs.declared.profile.Profile.{Profile}
use Rattle.ged_canon.specs.declared.edition.Edition.{Edition}
use Rattle.ged_canon.specs.Steps.{done}
use Rattle.ged_tool.specs.declared.comparison.Form.{Form}
use Rattle.ged_tool.specs.declared.comparison.Form.TheVariants.{Canonical, Tidy}
use Rattle.ged_accept.specs.Accepted.{IsAccepted}
use Rattle.ged_tool.specs.Same.{AreComparedBy, IsInForm, relation_of}
use Rattle.ged_tool.proofs.calls.CanonLaws.{headline}
use Rattle.ged_tool.proofs.calls.TidyLaws.{headline as tidy_headline}

-- a file that has bytes in a form is accepted
pub accepted_in_form : (form : Form) (profile : Profile) (edition : Edition) (file bytes : Bytes) → IsInForm form profile edition file bytes
    → (document : Trees) × IsAccepted profile file document
accepted_in_form Canonical profile edition file bytes h = (h.document, h.accepted)
accepted_in_form Tidy profile edition file bytes h = (h.document, h.accepted)

-- the bytes of two files in a form are equal exactly where one's document becomes the other's
pub equal_in_form : (form : Form) (profile : Profile) (edition : Edition) (first second first_bytes second_bytes : Bytes) (d e : Trees)
    → IsInForm form profile edition first first_bytes → IsInForm form profile edition second second_bytes → IsAccepted profile first d → IsAccepted profile second e
    → (first_bytes ≡ second_bytes) ↔ relation_of form edition d e
equal_in_form Canonical profile edition first second first_bytes second_bytes d e h k accepted other =
    (headline profile edition first first_bytes h).equal_exactly_when second second_bytes d e accepted other k
equal_in_form Tidy profile edition first second first_bytes second_bytes d e h k accepted other =
    (tidy_headline profile edition first first_bytes h).equal_exactly_when second second_bytes d e accepted other k

pub are_compared : (form : Form) (profile : Profile) (edition : Edition) (first second first_bytes second_bytes : Bytes) (same : Bool)
    → IsInForm form profile edition first first_bytes → IsInForm form profile edition second second_bytes → IsTrue same ↔ (first_bytes ≡ second_bytes)
    → AreComparedBy profile (relation_of form edition) first second same
are_compared form profile edition first second first_bytes second_bytes same h k equal =
    let (d, accepted) = accepted_in_form form profile edition first first_bytes h in
    let (e, other) = accepted_in_form form profile edition second second_bytes k in
    let becomes = equal_in_form form profile edition first second first_bytes second_bytes d e h k accepted other in
    record {
      document = d;
      other = e;
      first_accepted = accepted;
      second_accepted = other;
      same_exactly_when = (λ t. becomes.0 (equal.0 t), λ related. equal.1 (becomes.1 related));
    }

-- the bytes of a file in a form are their own in that form
own_in_form : (form : Form) (profile : Profile) (edition : Edition) (file bytes : Bytes) → IsInForm form profile edition file bytes → IsInForm form profile edition bytes bytes
own_in_form Canonical profile edition file bytes h = (headline profile edition file bytes h).twice_is_once.own
own_in_form Tidy profile edition file bytes h = (tidy_headline profile edition file bytes h).twice_is_once.own

-- a file is the same as its bytes in a form, in both orders
pub compared_to_form : (form : Form) (profile : Profile) (edition : Edition) (file bytes : Bytes) → IsInForm form profile edition file bytes
    → AreComparedBy profile (relation_of form edition) file bytes true
compared_to_form form profile edition file bytes h =
    are_compared form profile edition file bytes bytes bytes true h (own_in_form form profile edition file bytes h) (λ _. refl, λ _. search)

pub form_compared_to : (form : Form) (profile : Profile) (edition : Edition) (file bytes : Bytes) → IsInForm form profile edition file bytes
    → AreComparedBy profile (relation_of form edition) bytes file true
form_compared_to form profile edition file bytes h =
    are_compared form profile edition bytes file bytes bytes true (own_in_form form profile edition file bytes h) h (λ _. refl, λ _. search)

-- a document becomes itself in each way
itself : (form : Form) (edition : Edition) (d : Trees) → relation_of form edition d d
itself Canonical edition d = done
itself Tidy edition d = done

-- a file that is accepted is the same as a copy of it
pub compared_to_copy : (form : Form) (profile : Profile) (edition : Edition) (file : Bytes) (document : Trees) → IsAccepted profile file document
    → AreComparedBy profile (relation_of form edition) file file true
compared_to_copy form profile edition file document accepted = record {
  document = document;
  other = document;
  first_accepted = accepted;
  second_accepted = accepted;
  same_exactly_when = (λ t. itself form edition document, λ related. refl);
}
