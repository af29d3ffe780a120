use Rattle.ged_canon.proofs.theory.Chains.{both, back}
use Rattle.ged_canon.proofs.theory.InPlace.{in_place}
use Rattle.ged_canon.proofs.theory.Tidy.{place_back, identifiers_kept, pointers_kept}
use Rattle.ged_canon.proofs.laws.steps_in_place.Goals as goal

pub returns : goal.returns
returns c = record {
  undone = place_back;
  symmetric = λ edition d e h. back (place_back edition) h;
  transitive = λ edition d e f h k. both h k;
  equivalent = in_place;
  identifiers = identifiers_kept;
  pointers = pointers_kept;
}
