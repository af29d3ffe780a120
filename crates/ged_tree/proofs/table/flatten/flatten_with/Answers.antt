use Rattle.ged_tree.proofs.table.flatten.flatten_with.Goals as goal

pub returns-in-Some-clause-document : goal.returns-in-Some-clause-document
returns-in-Some-clause-document g c = c.flatten_text.ensures.document c.args.bytes.now c.in-Some.ensures.0
