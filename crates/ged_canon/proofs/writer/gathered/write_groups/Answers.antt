use Rattle.std.proofs.Common.{◌≡◌, ◌+◌, ◌++◌, ◌-◌, List, [], length, take, drop, sym, ap, ◌∙◌, append-nil, arith, length-append}
use Rattle.std.proofs.lemmas.List.{take_all, drop_all}
use borrow.Rule.Slice.PartMut.{same_len_mid, put_mid}
use Rattle.ged_canon.specs.declared.writer.rank.RankedSibling.{RankedSibling}
use Rattle.ged_canon.specs.inner.Gathered.{members, joined}
use Rattle.ged_canon.proofs.writer.RankGroups.{joined_next, group_written}
use Rattle.ged_canon.proofs.writer.gathered.write_groups.Goals as goal

pub overflow_add-end : goal.overflow_add-end
overflow_add-end c =
    let group = c.group-item.result in
    let next = joined_next c.args.groups.now c.loop-group.group-index group c.loop-group-test.true c.group-item.is in
    omega (arith, ap (λ xs. length xs) next, length-append group.items (joined (members (drop (c.loop-group.group-index + 1) c.args.groups.now))))

pub loop-group-preserved : goal.loop-group-preserved
loop-group-preserved c =
    let group = c.group-item.result in
    let at = c.loop-group.at in
    let now = c.loop-group.siblings in
    let rest = joined (members (drop (c.loop-group.group-index + 1) c.args.groups.now)) in
    let next = joined_next c.args.groups.now c.loop-group.group-index group c.loop-group-test.true c.group-item.is in
    let is : c.copy_from_slice.new.self ≡ group.items = c.copy_from_slice.ensures.after ∙ c.as_slice.ensures.value in
    let ys = c.copy_from_slice.new.self in
    let long : length ys ≡ c.len.result = omega (arith, ap (λ (xs : List RankedSibling). length xs) c.copy_from_slice.ensures.after, c.as_slice.ensures.len, c.len.ensures) in
    let all = ap (λ (xs : List RankedSibling). length xs) next in
    let both = length-append group.items rest in
    let same = same_len_mid at (at + c.len.result - at) now ys c.copy_from_slice.ensures.len in
    let own = ap (λ (xs : List RankedSibling). length xs) is in
    let written = put_mid at (at + c.len.result - at) now ys in
    record {
      room = omega (arith, same, long, all, both, own, c.loop-group.invariant.room);
      whole =
          ap (λ n. take n written ++ rest) (omega (arith, long))
          ∙ group_written at (at + c.len.result - at) now ys rest (joined (members c.args.groups.now)) (omega (arith, c.loop-group.invariant.room))
          (ap (λ l. take at now ++ (l ++ rest)) is ∙ ap (λ l. take at now ++ l) (sym next) ∙ c.loop-group.invariant.whole);
    }

pub returns : goal.returns
returns c =
    let none_left = drop_all c.loop-group.group-index c.args.groups.now c.loop-group-test.false in
    let left : joined (members (drop c.loop-group.group-index c.args.groups.now)) ≡ [] = ap (λ gs. joined (members gs)) none_left in
    sym (take_all c.loop-group.at c.loop-group.siblings (omega (arith, ap (λ (xs : List RankedSibling). length xs) left)))
    ∙ sym (append-nil (take c.loop-group.at c.loop-group.siblings))
    ∙ ap (λ xs. take c.loop-group.at c.loop-group.siblings ++ xs) (sym left)
    ∙ c.loop-group.invariant.whole
