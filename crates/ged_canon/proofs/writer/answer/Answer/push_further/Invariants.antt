use Rattle.std.proofs.Common.{◌+◌, take}
use Rattle.ged_line.specs.Spelling.{spelled_lines}
use Rattle.ged_tree.specs.inner.DocumentParts.{continued}
use Rattle.ged_canon.specs.inner.Written.{Appends}
use Rattle.ged_canon.proofs.writer.answer.Answer.push_further.Given as goal

-- the CONT lines so far are written
abbrev pub invariant-loop-number : goal.invariant-loop-number
invariant-loop-number l = Appends l.file l.fn.self l.self (spelled_lines (continued (l.level + 1) (take l.number l.further)))
