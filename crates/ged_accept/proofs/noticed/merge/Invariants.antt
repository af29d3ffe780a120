use Rattle.std.proofs.Common.{List, ◌++◌, ◌+◌, length}
use Rattle.ged_link.specs.declared.notices.Notice.{Notice}
use Rattle.ged_accept.specs.inner.Merges.{IsMerge}
use Rattle.ged_accept.proofs.noticed.merge.Given as goal

-- what merges those that are left, behind what is merged, merges all
abbrev pub invariant-loop-left : goal.invariant-loop-left
invariant-loop-left l = (rest : List Notice) → IsMerge l.left l.right rest → IsMerge l.first l.second (l.merged.items ++ rest)

abbrev pub decreases-loop-left : goal.decreases-loop-left
decreases-loop-left l = length l.left + length l.right
