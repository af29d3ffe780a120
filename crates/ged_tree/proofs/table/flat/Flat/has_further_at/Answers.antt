use Rattle.std.proofs.Common.{◌∙◌, arith, sym}
use Rattle.std.proofs.lemmas.Bool.{lt-ltb, ltb-true}
use Rattle.ged_tree.proofs.table.Answers.{kept_count, kept_goes_on}
use Rattle.ged_tree.proofs.table.flat.Flat.has_further_at.Goals as goal

pub index-requires : goal.index-requires
index-requires c =
    let size = kept_count c.self.inside.file.now c.self.inside.apart.items c.self.inside.structures.items c.self.inside.sizes c.self.inside.further c.self.invariant in
    let below = rw (← c.self.view_is) at c.requires in
    omega (arith, size, below, c.self.inside.structures.ok.0)

pub returns : goal.returns
returns c =
    let size = kept_count c.self.inside.file.now c.self.inside.apart.items c.self.inside.structures.items c.self.inside.sizes c.self.inside.further c.self.invariant in
    let below = rw (← c.self.view_is) at c.requires in
    let told = c.has_further.ensures
    ∙ kept_goes_on c.self.inside.file.now c.self.inside.apart.items c.self.inside.structures.items c.self.inside.sizes c.self.inside.further c.self.invariant c.args.place c.index.result.now (omega (arith, size, below)) c.index.ensures in
    rw (← c.self.view_is) ((λ is. ltb-true 0 _ (sym told ∙ is)), (λ some. told ∙ lt-ltb 0 _ some))
