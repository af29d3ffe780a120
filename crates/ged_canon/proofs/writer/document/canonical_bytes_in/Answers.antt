use Rattle.ged_canon.proofs.writer.document.canonical_bytes_in.Goals as goal

pub spell_canonical_in-requires-clause-lines : goal.spell_canonical_in-requires-clause-lines
spell_canonical_in-requires-clause-lines g c = c.none.ensures (g.F.Forest.trees c.args.forest.now)
