use Rattle.ged_link.proofs.TypeLemmas.{tag_tested}
use Rattle.ged_link.proofs.record_type.has_tag_of.Goals as goal

pub returns : goal.returns
returns c = λ tag typed. tag_tested _ tag c.args.wanted c.is_typed.result typed c.is_typed.ensures
