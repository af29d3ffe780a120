use Rattle.std.proofs.Common.{refl}
use Rattle.ged_tree.proofs.table.GrownSizes.{same_grown}
use Rattle.ged_tree.proofs.table.growing.GrowingSizes.reserve.Goals as goal

pub returns : goal.returns
returns c = λ levels sized rises. same_grown levels c.args.self.now _ c.reserve.ensures.bytes c.reserve.ensures.large refl refl (sized rises)
