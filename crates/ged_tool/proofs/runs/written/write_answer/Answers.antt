use Rattle.ged_tool.proofs.runs.written.write_answer.Goals as goal

pub returns-in-Lines-clause-ok : goal.returns-in-Lines-clause-ok
returns-in-Lines-clause-ok g c = rw c.in-Lines.is (rw c.bytes.ensures at c.write_lines.ensures.ok)

pub returns-in-Lines-clause-err : goal.returns-in-Lines-clause-err
returns-in-Lines-clause-err g c = rw c.in-Lines.is (rw c.bytes.ensures at c.write_lines.ensures.err)
