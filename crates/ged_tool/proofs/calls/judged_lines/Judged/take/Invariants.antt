use Rattle.std.proofs.Common.{◌++◌}
use Rattle.ged_tool.proofs.calls.Judging.{IsJudging}
use Rattle.ged_tool.proofs.calls.judged_lines.Judged.take.Given as goal

-- the pieces so far spell the lines that were judged
abbrev pub invariant-loop-spelled : goal.invariant-loop-spelled
invariant-loop-spelled l = IsJudging (l.front ++ l.more) l.self l.spelled-iterator
