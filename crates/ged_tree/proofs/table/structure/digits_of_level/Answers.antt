use Rattle.std.proofs.Common.{sym, arith}
use Rattle.ged_tree.proofs.table.Tags.{length-decimal_one, length-decimal_two}
use Rattle.ged_tree.proofs.table.structure.digits_of_level.Goals as goal

pub returns-then-level-lt10 : goal.returns-then-level-lt10
returns-then-level-lt10 c = record { digits = sym (length-decimal_one c.args.level c.if-level-lt10.true); few = omega arith }

pub returns-else-level-lt10 : goal.returns-else-level-lt10
returns-else-level-lt10 c = record { digits = sym (length-decimal_two c.args.level c.if-level-lt10.false c.requires); few = omega arith }
