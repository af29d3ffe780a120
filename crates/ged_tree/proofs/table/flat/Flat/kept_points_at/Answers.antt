use Rattle.std.proofs.Common.{Bool, Option, Some, None, ◌∙◌, sym, arith}
use Rattle.std.specs.Prelude.{IfSome}
use Rattle.ged_tree.proofs.table.Answers.{kept_count, kept_pointer}
use Rattle.ged_tree.proofs.table.flat.Flat.kept_points_at.Goals as goal

told_also : (P Q : Bool → Type 0) (told : Option Bool) → ((points : Bool) → P points → Q points) → IfSome told P → IfSome told Q
told_also P Q None also h = h
told_also P Q (Some points) also h = also points h

pub index-requires : goal.index-requires
index-requires c =
    let size = kept_count c.self.inside.file.now c.self.inside.apart.items c.self.inside.structures.items c.self.inside.sizes c.self.inside.further c.self.invariant in
    let below = rw (← c.self.view_is) at c.requires in
    omega (arith, size, below, c.self.inside.structures.ok.0)

pub returns : goal.returns
returns c =
    let size = kept_count c.self.inside.file.now c.self.inside.apart.items c.self.inside.structures.items c.self.inside.sizes c.self.inside.further c.self.invariant in
    let below = rw (← c.self.view_is) at c.requires in
    rw (← c.self.view_is) (told_also _ _ c.points.result
    (λ points told. sym told.1 ∙ kept_pointer c.self.inside.file.now c.self.inside.apart.items c.self.inside.structures.items c.self.inside.sizes c.self.inside.further c.self.invariant c.args.place c.index.result.now (omega (arith, size, below)) c.index.ensures told.0)
    c.points.ensures.kept)
