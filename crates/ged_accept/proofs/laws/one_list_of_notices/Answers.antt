use Rattle.ged_accept.proofs.laws.OneList.{one_list}
use Rattle.ged_accept.proofs.laws.one_list_of_notices.Goals as goal

pub returns : goal.returns
returns c = one_list
