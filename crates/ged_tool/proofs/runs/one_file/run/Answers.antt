use Rattle.ged_tool.proofs.runs.one_file.run.Goals as goal

pub returns : goal.returns
returns g c = rw (c.new.ensures.profile, c.new.ensures.edition) at c.run_as.ensures
