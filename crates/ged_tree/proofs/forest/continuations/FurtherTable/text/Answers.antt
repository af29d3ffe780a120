use Rattle.std.proofs.Common.{◌≡◌, ◌<◌, ◌+◌, ◌-◌, ◌∙◌, ℕ, Some, ap, arith, drop, length, map, sym, take}
use Rattle.ged_tree.specs.Rows.{set_apart}
use Rattle.ged_tree.proofs.table.Continuations.{length-further, text_behind, text_set_apart, text_sliced}
use Rattle.ged_tree.proofs.forest.continuations.FurtherTable.text.Goals as goal

pub returns-then-number-count : goal.returns-then-number-count
returns-then-number-count c =
    let table = c.args.self.now in
    let file = c.args.file.now in
    let slice = c.index-slice.result.now in
    let within : c.args.number < length table.slices.items = omega (arith, c.if-number-count.true, c.len-count.ensures, table.slices.ok.0) in
    let size : (slice.start + slice.length) - slice.start ≡ slice.length = omega arith in
    text_sliced file table.slices.items (map set_apart table.apart.items) c.args.number slice within c.index-slice.ensures
    ∙ ap (λ (n : ℕ). Some (take n (drop slice.start file))) (sym size) ∙ ap Some (sym c.range.ensures.value)

pub returns : goal.returns
returns c =
    let table = c.args.self.now in
    let file = c.args.file.now in
    let k = c.args.number - length table.slices.items in
    let past : c.args.number ≡ length table.slices.items + k = omega (arith, c.if-number-count.false, c.len-count.ensures, table.slices.ok.0) in
    let within : k < length table.apart.items = omega (arith, past, c.requires.within, length-further file table) in
    let here = rw (c.len-count.ensures, table.slices.ok.0) at c.index.ensures in
    text_behind file table.slices.items (map set_apart table.apart.items) c.args.number k past
    ∙ text_set_apart table.apart.items k c.index.result.now within here
