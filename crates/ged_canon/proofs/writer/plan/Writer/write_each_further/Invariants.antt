use Rattle.std.proofs.Common.{◌≡◌, ◌+◌, ◌++◌, take}
use Rattle.ged_line.specs.Spelling.{spelled_lines}
use Rattle.ged_tree.specs.Trees.{further_lines}
use Rattle.ged_tree.specs.Places.{structure_at}
use Rattle.ged_tree.specs.inner.DocumentParts.{continued}
use Rattle.ged_canon.specs.inner.Written.{written}
use Rattle.ged_canon.proofs.writer.plan.Writer.write_each_further.Given as goal

-- the CONT lines so far are written
abbrev pub invariant-loop-number : goal.invariant-loop-number
invariant-loop-number g l = written l.self.plan.file.now l.answer ≡ written l.self.plan.file.now l.fn.answer ++ spelled_lines (continued (l.level + 1) (take l.number (further_lines (structure_at (g.F.Forest.trees l.self.forest.now) l.place).payload)))
