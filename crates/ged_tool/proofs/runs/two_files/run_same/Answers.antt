use Rattle.ged_tool.proofs.runs.two_files.run_same.Goals as goal

pub returns : goal.returns
returns g c = rw (c.new.ensures.profile, c.new.ensures.edition) at c.run_same_as.ensures
