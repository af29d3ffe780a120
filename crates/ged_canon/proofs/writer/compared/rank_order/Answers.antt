use Rattle.std.proofs.Common.{sym, ◌∙◌}
use Rattle.ged_canon.proofs.writer.SortKeys.{order_of_ranks}
use Rattle.ged_canon.proofs.writer.compared.rank_order.Goals as goal

pub returns : goal.returns
returns c = c.cmp.ensures ∙ sym (order_of_ranks c.args.first.now c.args.other.now)
