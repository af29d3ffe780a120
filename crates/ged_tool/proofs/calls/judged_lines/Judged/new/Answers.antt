use Rattle.ged_tool.proofs.calls.Judging.{judged_none}
use Rattle.ged_tool.proofs.calls.judged_lines.Judged.new.Goals as goal

pub returns : goal.returns
returns c = judged_none c.new.result c.new.ensures
