use Rattle.std.proofs.Common.{refl}
use Rattle.ged_tree.proofs.table.Continuations.{point_between}
use Rattle.ged_tree.proofs.forest.continuations.ends_before.Goals as goal

pub returns-then-is_last_before : goal.returns-then-is_last_before
returns-then-is_last_before c = λ passes.
    point_between (λ line. line.after) c.args.place c.args.slices.now c.args.number c.requires.order c.requires.within (c.if-is_last_before.ensures refl) (c.is_first_behind.ensures passes)
