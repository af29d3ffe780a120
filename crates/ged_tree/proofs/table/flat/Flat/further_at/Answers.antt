use Rattle.std.proofs.Common.{◌+◌, ◌∙◌, sym, arith}
use Rattle.std.proofs.lemmas.Option.{slice_get-map}
use Rattle.ged_tree.specs.Rows.{Further, further_of, shown_from}
use Rattle.ged_tree.proofs.table.Continuations.{length-further}
use Rattle.ged_tree.proofs.table.PackedStructures.{length-shown}
use Rattle.ged_tree.proofs.table.Answers.{kept_count, flat_further}
use Rattle.ged_tree.proofs.table.flat.Flat.further_at.Goals as goal

pub before-start-requires : goal.before-start-requires
before-start-requires c = record { slices = c.self.invariant.further_in_order.0; apart = c.self.invariant.further_in_order.1 }

pub overflow_add-start : goal.overflow_add-start
overflow_add-start c =
    let file = c.self.inside.file.now in
    let table = c.self.inside.further in
    let items = shown_from file c.self.inside.apart.items 0 c.self.inside.structures.items in
    let long = length-shown file c.self.inside.apart.items 0 c.self.inside.structures.items in
    let size = kept_count file c.self.inside.apart.items c.self.inside.structures.items c.self.inside.sizes table c.self.invariant in
    let below = rw (← c.self.view_is) at c.requires.within in
    let few = rw (← c.self.view_is) at c.requires.further in
    let told = flat_further items (further_of file table) c.self.invariant.lists c.args.place c.args.number (omega (arith, long, size, below)) few in
    let start = c.before-start.ensures file in
    omega (arith, told.0, start, length-further file table, table.slices.ok.0, table.slices.small, table.apart.ok.0, table.apart.small)

pub text-requires : goal.text-requires
text-requires c =
    let file = c.self.inside.file.now in
    let table = c.self.inside.further in
    let items = shown_from file c.self.inside.apart.items 0 c.self.inside.structures.items in
    let long = length-shown file c.self.inside.apart.items 0 c.self.inside.structures.items in
    let size = kept_count file c.self.inside.apart.items c.self.inside.structures.items c.self.inside.sizes table c.self.invariant in
    let below = rw (← c.self.view_is) at c.requires.within in
    let few = rw (← c.self.view_is) at c.requires.further in
    let told = flat_further items (further_of file table) c.self.invariant.lists c.args.place c.args.number (omega (arith, long, size, below)) few in
    let start = c.before-start.ensures file in
    record { within = omega (arith, told.0, start); slices = c.self.invariant.further_slices }

pub returns : goal.returns
returns c =
    let file = c.self.inside.file.now in
    let table = c.self.inside.further in
    let further = further_of file table in
    let items = shown_from file c.self.inside.apart.items 0 c.self.inside.structures.items in
    let long = length-shown file c.self.inside.apart.items 0 c.self.inside.structures.items in
    let size = kept_count file c.self.inside.apart.items c.self.inside.structures.items c.self.inside.sizes table c.self.invariant in
    let below = rw (← c.self.view_is) at c.requires.within in
    let few = rw (← c.self.view_is) at c.requires.further in
    let told = flat_further items further c.self.invariant.lists c.args.place c.args.number (omega (arith, long, size, below)) few in
    let start = c.before-start.ensures file in
    let seen = sym (slice_get-map (λ (line : Further). line.text) further (c.before-start.result + c.args.number)) ∙ c.text.ensures in
    rw (← c.self.view_is) (told.1 ∙ rw start at seen)
