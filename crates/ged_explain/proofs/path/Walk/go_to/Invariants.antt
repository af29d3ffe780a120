use Rattle.std.proofs.Common.{length}
use Rattle.ged_explain.proofs.path.Walk.go_to.Given as goal

abbrev pub decreases-loop-spelled : goal.decreases-loop-spelled
decreases-loop-spelled l = length l.self.lines
