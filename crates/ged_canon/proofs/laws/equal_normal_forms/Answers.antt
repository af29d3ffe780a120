use Rattle.std.proofs.Common.{sym, subst}
use Rattle.ged_canon.specs.Steps.{Equivalent}
use Rattle.ged_canon.proofs.theory.Chains.{both, back}
use Rattle.ged_canon.proofs.theory.Undone.{step_back}
use Rattle.ged_canon.proofs.theory.Unique.{unique}
use Rattle.ged_canon.proofs.laws.equal_normal_forms.Goals as goal

pub returns : goal.returns
returns c edition d e m n a b = (
  (λ k. both a.equivalent (subst (λ x. Equivalent edition x e) (sym k) (back (step_back edition) b.equivalent))),
  (λ k. unique edition m n (both (back (step_back edition) a.equivalent) (both k b.equivalent)) a.normal b.normal),
)
