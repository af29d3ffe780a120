use Rattle.ged_canon.proofs.theory.Chains.{both, back}
use Rattle.ged_canon.proofs.theory.Undone.{step_back}
use Rattle.ged_canon.proofs.laws.equivalence.Goals as goal

pub returns : goal.returns
returns c = record {
  symmetric = λ edition d e h. back (step_back edition) h;
  transitive = λ edition d e f h k. both h k;
}
