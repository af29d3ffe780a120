use Rattle.std.proofs.Common.{◌∙◌}
use Rattle.ged_link.proofs.PairLemmas.{searched_pair}
use Rattle.ged_link.proofs.pairs.has_wide.Goals as goal

pub returns : goal.returns
returns c = c.is_ok.ensures.value ∙ searched_pair c.args.wide.now c.args.from c.args.to c.binary_search.result c.requires c.binary_search.ensures.bound c.binary_search.ensures.position
