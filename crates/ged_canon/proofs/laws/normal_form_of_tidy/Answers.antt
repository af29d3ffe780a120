use Rattle.ged_canon.proofs.theory.Tidy as tidy
use Rattle.ged_canon.proofs.laws.normal_form_of_tidy.Goals as goal

pub returns : goal.returns
returns c = record {
  normal_form = tidy.normal_form_of_tidy;
  tidy = λ edition d h. record { places = h.places; records_in_order = h.records_in_order };
}
