use Rattle.ged_value.proofs.ZeroKinds.{fitting}
use Rattle.ged_value.proofs.zeros.fitting_without_zeros.Goals as goal

pub returns : goal.returns
returns c = fitting
