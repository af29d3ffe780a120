use Rattle.ged_tree.specs.Places.{structure_at}
use Rattle.ged_canon.proofs.writer.siblings.used_record.Goals as goal

pub returns-in-Some : goal.returns-in-Some
returns-in-Some g c =
    let d = g.F.Forest.trees c.args.forest.now in
    c.if_used.ensures d (structure_at d c.args.place).xref c.requires.index (c.record_standing_at.ensures.identifier d c.requires.index c.in-Some.number c.in-Some.is)
