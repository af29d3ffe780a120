use Rattle.std.proofs.Common.{◌∙◌, arith, sym}
use Rattle.ged_tree.proofs.table.Answers.{kept_count, kept_alone}
use Rattle.ged_tree.proofs.table.flat.Flat.further_count.Goals as goal

pub index-requires : goal.index-requires
index-requires c =
    let size = kept_count c.self.inside.file.now c.self.inside.apart.items c.self.inside.structures.items c.self.inside.sizes c.self.inside.further c.self.invariant in
    let below = rw (← c.self.view_is) at c.requires in
    omega (arith, size, below, c.self.inside.structures.ok.0)

pub returns-then-not-has_further : goal.returns-then-not-has_further
returns-then-not-has_further c =
    let size = kept_count c.self.inside.file.now c.self.inside.apart.items c.self.inside.structures.items c.self.inside.sizes c.self.inside.further c.self.invariant in
    let below = rw (← c.self.view_is) at c.requires in
    rw (← c.self.view_is) (sym (kept_alone c.self.inside.file.now c.self.inside.apart.items c.self.inside.structures.items c.self.inside.sizes c.self.inside.further c.self.invariant c.args.place c.index.result.now (omega (arith, size, below)) c.index.ensures (sym c.has_further.ensures ∙ c.if-not-has_further.true)))
