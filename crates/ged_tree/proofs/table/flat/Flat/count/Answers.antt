use Rattle.std.proofs.Common.{◌∙◌}
use Rattle.ged_tree.proofs.table.Answers.{kept_count}
use Rattle.ged_tree.proofs.table.flat.Flat.count.Goals as goal

pub returns : goal.returns
returns c =
    let size = kept_count c.self.inside.file.now c.self.inside.apart.items c.self.inside.structures.items c.self.inside.sizes c.self.inside.further c.self.invariant in
    rw (← c.self.view_is) (record { count = c.len.ensures ∙ c.self.inside.structures.ok.0 ∙ size; document = c.self.invariant.lists.document })
