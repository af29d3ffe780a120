use Rattle.ged_tool.proofs.calls.canonicalise.canonicalise.Goals as goal

pub returns : goal.returns
returns c =
    let told = rw (c.new.ensures.profile, c.new.ensures.edition) at c.canonicalise_as.ensures in
    record { canon = told.canon; headline = told.headline; refused = told.refused }
