use Rattle.ged_link.proofs.LawLemmas.{one_record}
use Rattle.ged_link.proofs.laws.one_record_has_name.Goals as goal

pub returns : goal.returns
returns c = one_record
