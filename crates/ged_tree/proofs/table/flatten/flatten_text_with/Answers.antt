use Rattle.ged_tree.proofs.table.flatten.flatten_text_with.Goals as goal

pub returns-clause-document : goal.returns-clause-document
returns-clause-document g c = c.flatten_text.ensures.document c.args.file.now c.without_mark.ensures

pub returns-clause-fault : goal.returns-clause-fault
returns-clause-fault g c = c.flatten_text.ensures.fault c.args.file.now c.without_mark.ensures
