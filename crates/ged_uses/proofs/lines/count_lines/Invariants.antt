use Rattle.ged_uses.proofs.Counting.{HasCounted}
use Rattle.ged_uses.proofs.lines.count_lines.Given as goal

-- those counted so far, and those among the lines that are left, are all
abbrev pub invariant-loop-line : goal.invariant-loop-line
invariant-loop-line l = HasCounted l.tag l.bytes l.count l.line-iterator
