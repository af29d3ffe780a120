use Rattle.ged_canon.proofs.writer.tidy.tidy_bytes_in.Goals as goal

pub spell_tidy_in-requires-clause-lines : goal.spell_tidy_in-requires-clause-lines
spell_tidy_in-requires-clause-lines g c = c.none.ensures (g.F.Forest.trees c.args.forest.now)
