use Rattle.std.proofs.Common.{rules}
use Rattle.ged_tool.proofs.runs.answer.answer_file.Goals as goal

pub returns-in-Lines : goal.returns-in-Lines
returns-in-Lines c = rw c.in-Lines.is (rw c.bytes.ensures at c.answer_lines.ensures)

pub returns-in-Check : goal.returns-in-Check
returns-in-Check c = rw c.in-Check.is c.answer_check.ensures

pub returns-in-Show : goal.returns-in-Show
returns-in-Show c = rw c.in-Show.is c.answer_show.ensures

pub returns-in-Canon : goal.returns-in-Canon
returns-in-Canon c = search rules

pub returns-in-Tidy : goal.returns-in-Tidy
returns-in-Tidy c = search rules
