use Rattle.ged_canon.proofs.theory.Editions.{one_second, first_normal}
use Rattle.ged_canon.proofs.laws.editions_agree.Goals as goal

pub returns : goal.returns
returns c = record { one_second = one_second; normal_in_first = first_normal }
