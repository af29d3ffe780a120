use Rattle.std.proofs.Common.{◌∙◌, arith}
use Rattle.ged_tree.proofs.table.Answers.{kept_count, kept_level_is}
use Rattle.ged_tree.proofs.table.flat.Flat.level_at.Goals as goal

pub index-requires : goal.index-requires
index-requires c =
    let size = kept_count c.self.inside.file.now c.self.inside.apart.items c.self.inside.structures.items c.self.inside.sizes c.self.inside.further c.self.invariant in
    let below = rw (← c.self.view_is) at c.requires in
    omega (arith, size, below, c.self.inside.structures.ok.0)

pub returns : goal.returns
returns c =
    let size = kept_count c.self.inside.file.now c.self.inside.apart.items c.self.inside.structures.items c.self.inside.sizes c.self.inside.further c.self.invariant in
    let below = rw (← c.self.view_is) at c.requires in
    rw (← c.self.view_is) (c.level.ensures ∙ kept_level_is c.self.inside.file.now c.self.inside.apart.items c.self.inside.structures.items c.self.inside.sizes c.self.inside.further c.self.invariant c.args.place c.index.result.now (omega (arith, size, below)) c.index.ensures)
