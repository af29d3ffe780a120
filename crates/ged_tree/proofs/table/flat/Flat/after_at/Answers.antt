use Rattle.std.proofs.Common.{refl, arith, slice_index_or}
use Rattle.std.proofs.lemmas.List.{get_or_default}
use Rattle.ged_tree.specs.declared.table.packed.KeptStructure.{KeptStructure}
use Rattle.ged_tree.proofs.table.Answers.{kept_count, kept_after}
use Rattle.ged_tree.proofs.table.Afters.{sizes_later, size_here}
use Rattle.ged_tree.proofs.table.flat.Flat.after_at.Goals as goal

pub after-requires-clause-within : goal.after-requires-clause-within
after-requires-clause-within c =
    let size = kept_count c.self.inside.file.now c.self.inside.apart.items c.self.inside.structures.items c.self.inside.sizes c.self.inside.further c.self.invariant in
    let below = rw (← c.self.view_is) at c.requires in
    rw c.as_slice.ensures.value (omega (arith, size, below))

pub after-requires-clause-sizes : goal.after-requires-clause-sizes
after-requires-clause-sizes c = rw c.as_slice.ensures.value (sizes_later c.self.inside.structures.items c.self.inside.sizes 0 c.args.place (omega arith) c.self.invariant.sized)

pub returns : goal.returns
returns c =
    let items = c.self.inside.structures.items in
    let place = c.args.place in
    let size = kept_count c.self.inside.file.now c.self.inside.apart.items items c.self.inside.sizes c.self.inside.further c.self.invariant in
    let below = rw (← c.self.view_is) at c.requires in
    let d : KeptStructure = record { start = 0; length = 0; mark = 0; tag_start = 0; tag_mark = 0 } in
    let s = slice_index_or items place d in
    let here = size_here items place 0 s d refl (omega (arith, size, below)) in
    let e = kept_after c.self.inside.file.now c.self.inside.apart.items items c.self.inside.sizes c.self.inside.further c.self.invariant place s (omega (arith, size, below)) (get_or_default items place d s (omega (arith, size, below))) in
    let told = rw c.as_slice.ensures.value at c.after.ensures in
    rw (← c.self.view_is) (omega (arith, told, here, e))
