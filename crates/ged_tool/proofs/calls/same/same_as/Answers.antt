use Rattle.ged_tool.proofs.calls.same.same_as.Goals as goal

pub returns : goal.returns
returns c = record { compared = c.same_by.ensures.compared; refused = c.same_by.ensures.refused }
