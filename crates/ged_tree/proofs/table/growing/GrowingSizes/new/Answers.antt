use Rattle.ged_tree.proofs.table.GrownSizes.{none_grown}
use Rattle.ged_tree.proofs.table.growing.GrowingSizes.new.Goals as goal

pub returns : goal.returns
returns c = λ rises. none_grown _ c.new.ensures.bytes c.new.ensures.large
