use Rattle.std.proofs.Common.{arith, refl, sym, ◌∙◌, ◌+◌, ◌≤◌, length-set, get_or, Some, None}
use Rattle.ged_tree.specs.Trees.{trees_count}
use Rattle.ged_tree.specs.Places.{structure_at}
use Rattle.ged_tree.specs.Runs.{trees_between}
use Rattle.ged_schema.specs.Tables.{rows, row}
use Rattle.ged_schema.proofs.Numbers.{numbered_row}
use Rattle.ged_schema.proofs.Runs.{counted_zeros, counted_none, counted_some, counted_all, count_room, IsOnlyNumber}
use Rattle.ged_schema.proofs.checking.count_rows.Goals as goal

pub loop-after-init : goal.loop-after-init
loop-after-init g c = record { run = c.requires.run; whole = c.requires.run; long = refl; counted = counted_zeros (rows c.args.context) 64 _ }

pub bounds-counts-number : goal.bounds-counts-number
bounds-counts-number g c = c.in-Some-row_number.ensures.small

pub bounds-counts-number-in-Some-row_number : goal.bounds-counts-number-in-Some-row_number
bounds-counts-number-in-Some-row_number g c = c.in-Some-row_number.ensures.small

pub offset_bounds-counts-number : goal.offset_bounds-counts-number
offset_bounds-counts-number g c = omega (arith, c.in-Some-row_number.ensures.small)

pub overflow_add-counts : goal.overflow_add-counts
unfolding row
overflow_add-counts g c =
    let d = g.F.Forest.trees c.args.forest.now in
    let place = c.loop-after.place in
    let s = structure_at d place in
    let left = trees_between d place c.args.end in
    let all = trees_between d c.args.start c.args.end in
    let below = trees_between d (place + 1) c.in-Some.after in
    let next = trees_between d c.in-Some.after c.args.end in
    let k = c.in-Some-row_number.number in
    let (q, at, tags) = numbered_row (rows c.args.context) c.tag.result.now k c.in-Some-row_number.ensures.row.0 c.in-Some-row_number.ensures.row.1 in
    let room : get_or c.loop-after.counts k 0 + 1 ≤ trees_count all = count_room (rows c.args.context) c.loop-after.counts left all s below next c.in-Some.ensures.first c.loop-after.invariant.counted k q at (tags ∙ c.tag.ensures) in
    omega (arith, room, c.loop-after.invariant.whole.fills, c.ranges.end.fits)

pub loop-after-preserved-in-Some-row_number : goal.loop-after-preserved-in-Some-row_number
unfolding row
loop-after-preserved-in-Some-row_number g c =
    let d = g.F.Forest.trees c.args.forest.now in
    let place = c.loop-after.place in
    let s = structure_at d place in
    let left = trees_between d place c.args.end in
    let all = trees_between d c.args.start c.args.end in
    let below = trees_between d (place + 1) c.in-Some.after in
    let next = trees_between d c.in-Some.after c.args.end in
    let k = c.in-Some-row_number.number in
    let (q, at, tags) = numbered_row (rows c.args.context) c.tag.result.now k c.in-Some-row_number.ensures.row.0 c.in-Some-row_number.ensures.row.1 in
    let only : IsOnlyNumber (rows c.args.context) s.tag (Some k) = λ i r stands same. c.in-Some-row_number.ensures.only i r stands (same ∙ sym c.tag.ensures) in
    record {
      run = c.in-Some.ensures.rest;
      whole = c.loop-after.invariant.whole;
      long = length-set _ _ _ ∙ c.loop-after.invariant.long;
      counted = counted_some (rows c.args.context) c.loop-after.counts left all s below next c.in-Some.ensures.first c.loop-after.invariant.counted k only q at (tags ∙ c.tag.ensures) (omega (arith, c.in-Some-row_number.ensures.small, c.loop-after.invariant.long));
    }

pub loop-after-preserved : goal.loop-after-preserved
loop-after-preserved g c =
    let d = g.F.Forest.trees c.args.forest.now in
    let place = c.loop-after.place in
    let s = structure_at d place in
    let left = trees_between d place c.args.end in
    let all = trees_between d c.args.start c.args.end in
    let below = trees_between d (place + 1) c.in-Some.after in
    let next = trees_between d c.in-Some.after c.args.end in
    let only : IsOnlyNumber (rows c.args.context) s.tag None = λ i r stands same. c.in_default-row_number.ensures.only i r stands (same ∙ sym c.tag.ensures) in
    record {
      run = c.in-Some.ensures.rest;
      whole = c.loop-after.invariant.whole;
      long = c.loop-after.invariant.long;
      counted = counted_none (rows c.args.context) c.loop-after.counts left all s below next c.in-Some.ensures.first c.loop-after.invariant.counted only;
    }

pub returns : goal.returns
returns g c =
    let d = g.F.Forest.trees c.args.forest.now in
    let left = trees_between d c.loop-after.place c.args.end in
    let all = trees_between d c.args.start c.args.end in
    λ i r stands. counted_all (rows c.args.context) c.loop-after.counts left all c.in_default.ensures c.loop-after.invariant.counted i r stands
