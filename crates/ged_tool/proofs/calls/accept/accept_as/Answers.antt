use Rattle.ged_tool.proofs.calls.accept.accept_as.Goals as goal

pub returns : goal.returns
returns c = c.accept.ensures
