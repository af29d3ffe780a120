use Rattle.std.proofs.Common.{arith}
use Rattle.ged_tree.specs.Rows.{further_of, shown_from}
use Rattle.ged_tree.proofs.table.PackedStructures.{length-shown}
use Rattle.ged_tree.proofs.table.Answers.{kept_count, flat_line, flat_number}
use Rattle.ged_tree.proofs.table.flat.Flat.line_at.Goals as goal

pub before-before-requires : goal.before-before-requires
before-before-requires c = record { slices = c.self.invariant.further_in_order.0; apart = c.self.invariant.further_in_order.1 }

pub overflow_add-result-2 : goal.overflow_add-result-2
overflow_add-result-2 c =
    let long = length-shown c.self.inside.file.now c.self.inside.apart.items 0 c.self.inside.structures.items in
    let size = kept_count c.self.inside.file.now c.self.inside.apart.items c.self.inside.structures.items c.self.inside.sizes c.self.inside.further c.self.invariant in
    let below = rw (← c.self.view_is) at c.requires in
    let number = flat_number (shown_from c.self.inside.file.now c.self.inside.apart.items 0 c.self.inside.structures.items) (further_of c.self.inside.file.now c.self.inside.further) c.self.invariant.lists c.args.place (omega (arith, long, size, below)) in
    let small = flat_line (shown_from c.self.inside.file.now c.self.inside.apart.items 0 c.self.inside.structures.items) (further_of c.self.inside.file.now c.self.inside.further) c.self.invariant.lists c.args.place (omega (arith, long, size, below)) in
    let before = c.before-before.ensures c.self.inside.file.now in
    omega (arith, number, small, before)

pub overflow_add-result : goal.overflow_add-result
overflow_add-result c = (let all = overflow_add-result-2 c in omega (arith, all))

pub returns : goal.returns
returns c =
    let long = length-shown c.self.inside.file.now c.self.inside.apart.items 0 c.self.inside.structures.items in
    let size = kept_count c.self.inside.file.now c.self.inside.apart.items c.self.inside.structures.items c.self.inside.sizes c.self.inside.further c.self.invariant in
    let below = rw (← c.self.view_is) at c.requires in
    let number = flat_number (shown_from c.self.inside.file.now c.self.inside.apart.items 0 c.self.inside.structures.items) (further_of c.self.inside.file.now c.self.inside.further) c.self.invariant.lists c.args.place (omega (arith, long, size, below)) in
    let before = c.before-before.ensures c.self.inside.file.now in
    rw (← c.self.view_is) (omega (arith, number, before))
