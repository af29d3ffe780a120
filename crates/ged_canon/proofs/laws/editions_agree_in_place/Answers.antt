use Rattle.ged_canon.proofs.theory.TidyEditions.{one_second, first_tidy}
use Rattle.ged_canon.proofs.laws.editions_agree_in_place.Goals as goal

pub returns : goal.returns
returns c = record { one_second = one_second; tidy_in_first = first_tidy }
