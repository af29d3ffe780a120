use Rattle.std.proofs.Common.{◌+◌, ◌∙◌, arith}
use Rattle.std.proofs.lemmas.List.{length-map}
use Rattle.ged_tree.specs.Rows.{Further, further_of, places_of, shown_from}
use Rattle.ged_tree.proofs.table.PackedStructures.{length-shown}
use Rattle.ged_tree.proofs.table.Answers.{kept_count, flat_lines, before_within, before_next}
use Rattle.ged_tree.proofs.table.flat.Flat.found_lines_at.Goals as goal

pub before-start-requires : goal.before-start-requires
before-start-requires c = record { slices = c.self.invariant.further_in_order.0; apart = c.self.invariant.further_in_order.1 }

pub before-end-requires : goal.before-end-requires
before-end-requires c = record { slices = c.self.invariant.further_in_order.0; apart = c.self.invariant.further_in_order.1 }

pub overflow_add-place : goal.overflow_add-place
overflow_add-place c =
    let size = kept_count c.self.inside.file.now c.self.inside.apart.items c.self.inside.structures.items c.self.inside.sizes c.self.inside.further c.self.invariant in
    let below = rw (← c.self.view_is) at c.requires in
    omega (arith, size, below, c.self.inside.structures.ok.0, c.self.inside.structures.small)

pub overflow_sub-end : goal.overflow_sub-end
overflow_sub-end c =
    let further = further_of c.self.inside.file.now c.self.inside.further in
    let start = c.before-start.ensures c.self.inside.file.now in
    let end = c.before-end.ensures c.self.inside.file.now in
    omega (arith, start, end, before_next c.args.place (places_of further))

pub of-requires : goal.of-requires
of-requires c =
    let further = further_of c.self.inside.file.now c.self.inside.further in
    let start = c.before-start.ensures c.self.inside.file.now in
    let end = c.before-end.ensures c.self.inside.file.now in
    let next = before_next c.args.place (places_of further) in
    let within = before_within (c.args.place + 1) (places_of further) in
    record {
      slices = c.self.invariant.further_slices;
      within = omega (arith, start, end, next, within, length-map further (λ (line : Further). line.after));
    }

pub returns : goal.returns
returns c =
    let file = c.self.inside.file.now in
    let further = further_of file c.self.inside.further in
    let long = length-shown file c.self.inside.apart.items 0 c.self.inside.structures.items in
    let size = kept_count file c.self.inside.apart.items c.self.inside.structures.items c.self.inside.sizes c.self.inside.further c.self.invariant in
    let below = rw (← c.self.view_is) at c.requires in
    let start = c.before-start.ensures file in
    let end = c.before-end.ensures file in
    let told = flat_lines (shown_from file c.self.inside.apart.items 0 c.self.inside.structures.items) further c.self.invariant.lists c.args.place (omega (arith, long, size, below)) in
    rw (← c.self.view_is) (rw (start, end) at c.of.ensures ∙ told)
