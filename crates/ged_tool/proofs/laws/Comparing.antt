-- Comparing files is an equivalence of those that are accepted.
use Rattle.std.proofs.Common.{◌≡◌, ◌↔◌, Bool, true, false, refl, sym, subst}
use Rattle.std.specs.Prelude.{IsTrue}
use Rattle.ged_tree.specs.Trees.{Trees}
use Rattle.ged_canon.specs.Steps.{Equivalent, done}
use Rattle.ged_canon.proofs.CallerLemmas.{symmetric, transitive, in_place_equivalent}
use Rattle.ged_tool.specs.declared.comparison.Form.TheVariants.{Canonical}
use Rattle.ged_tool.specs.SameLaws.{OneComparison, SameAsItself, SameBothWays, SameOnward, SameByBytes, SameByCanon, TidySameIsSame}
use Rattle.ged_accept.proofs.CallerLemmas.{one_accepted}
use Rattle.ged_tool.proofs.calls.Forms.{equal_in_form, are_compared}

-- one truth value, by what it says
one_truth : (a b : Bool) → (IsTrue a → IsTrue b) → (IsTrue b → IsTrue a) → a ≡ b
one_truth true b f g = sym (f refl)
one_truth false true f g = g refl
one_truth false false f g = refl

pub one_comparison : OneComparison
one_comparison profile edition first second same other h k =
    let d : h.document ≡ k.document = one_accepted profile profile first h.document k.document h.first_accepted k.first_accepted in
    let e : h.other ≡ k.other = one_accepted profile profile second h.other k.other h.second_accepted k.second_accepted in
    let told : IsTrue same ↔ Equivalent edition k.document k.other = rw (← d, ← e) h.same_exactly_when in
    one_truth same other (λ t. k.same_exactly_when.1 (told.0 t)) (λ t. told.1 (k.same_exactly_when.0 t))

pub same_as_itself : SameAsItself
same_as_itself profile edition file d h = record { document = d; other = d; first_accepted = h; second_accepted = h; same_exactly_when = (λ t. done, λ steps. refl) }

pub same_both_ways : SameBothWays
same_both_ways profile edition first second same h = record {
  document = h.other;
  other = h.document;
  first_accepted = h.second_accepted;
  second_accepted = h.first_accepted;
  same_exactly_when = (
    λ t. symmetric edition h.document h.other (h.same_exactly_when.0 t),
    λ steps. h.same_exactly_when.1 (symmetric edition h.other h.document steps),
  );
}

pub same_onward : SameOnward
same_onward profile edition first second third h k =
    let middle : h.other ≡ k.document = one_accepted profile profile second h.other k.document h.second_accepted k.first_accepted in
    let onward : Equivalent edition h.document k.document = subst (λ (t : Trees). Equivalent edition h.document t) middle (h.same_exactly_when.0 refl) in
    record {
      document = h.document;
      other = k.other;
      first_accepted = h.first_accepted;
      second_accepted = k.second_accepted;
      same_exactly_when = (λ t. transitive edition h.document k.document k.other onward (k.same_exactly_when.0 refl), λ steps. refl);
    }

pub same_by_bytes : SameByBytes
same_by_bytes form profile edition first second first_bytes second_bytes h k = (
  λ c. (equal_in_form form profile edition first second first_bytes second_bytes c.document c.other h k c.first_accepted c.second_accepted).1 (c.same_exactly_when.0 refl),
  λ same. are_compared form profile edition first second first_bytes second_bytes true h k (λ t. same, λ equal. refl),
)

pub same_by_canon : SameByCanon
same_by_canon = same_by_bytes Canonical

pub tidy_same_is_same : TidySameIsSame
tidy_same_is_same profile edition first second h = record {
  document = h.document;
  other = h.other;
  first_accepted = h.first_accepted;
  second_accepted = h.second_accepted;
  same_exactly_when = (λ t. in_place_equivalent edition h.document h.other (h.same_exactly_when.0 refl), λ steps. refl);
}
