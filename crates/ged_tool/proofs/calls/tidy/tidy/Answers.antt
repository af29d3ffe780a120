use Rattle.ged_tool.proofs.calls.tidy.tidy.Goals as goal

pub returns : goal.returns
returns c =
    let told = rw (c.new.ensures.profile, c.new.ensures.edition) at c.tidy_as.ensures in
    record { tidied = told.tidied; headline = told.headline; refused = told.refused }
