use Rattle.std.proofs.Common.{sym, arith}
use Rattle.ged_canon.proofs.writer.SortKeys.{no_tag}
use Rattle.ged_canon.proofs.writer.compared.tag_at.Goals as goal

pub returns : goal.returns
returns g c = sym (no_tag (g.F.Forest.trees c.args.forest.now) c.args.place (omega arith))
