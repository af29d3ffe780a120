use Rattle.ged_tool.proofs.calls.digest.digest.Goals as goal

pub returns : goal.returns
returns c = rw (c.new.ensures.profile, c.new.ensures.edition) at c.digest_as.ensures
