use Rattle.ged_document.proofs.Copies.{record_tag, record_payload, record_below}
use Rattle.ged_document.proofs.copying.copy_first.Goals as goal

pub copy_between-requires-clause-below : goal.copy_between-requires-clause-below
copy_between-requires-clause-below g c =
    record_below (g.F.Forest.trees c.args.forest.now) c.args.place c.args.end c.args.after c.requires.step c.requires.fits

pub copy_node-requires-clause-tag : goal.copy_node-requires-clause-tag
copy_node-requires-clause-tag g c =
    record_tag (g.F.Forest.trees c.args.forest.now) c.args.place c.args.end c.args.after c.requires.step c.requires.fits

pub copy_node-requires-clause-payload : goal.copy_node-requires-clause-payload
copy_node-requires-clause-payload g c =
    (0, record_payload (g.F.Forest.trees c.args.forest.now) c.args.place c.args.end c.args.after c.requires.step c.requires.fits)

pub returns-clause-children : goal.returns-clause-children
returns-clause-children g c = rw (← c.in_ok-children.ensures) c.copy_node.ensures.children
