use Rattle.std.proofs.Common.{◌≡◌, ◌≤◌, length, take}
use Rattle.ged_canon.specs.inner.Siblings.{sibling_names}
use Rattle.ged_canon.proofs.writer.NewNumbers.{ArePlaces, AreUnnumbered}
use Rattle.ged_canon.proofs.writer.siblings.numbers_in_order.Given as goal

-- the names so far have their numbers, and a record without an identifier has none
abbrev pub invariant-loop-each : goal.invariant-loop-each
invariant-loop-each g l =
    let trees = g.F.Forest.trees l.forest in
    record {
      fits : l.number ≤ l.each-index;
      counted : l.number ≡ length (sibling_names trees (take l.each-index l.records));
      long : length l.numbers.items ≡ length l.records;
      placed : ArePlaces trees (sibling_names trees (take l.each-index l.records)) l.numbers.items;
      unnamed : AreUnnumbered trees l.numbers.items;
    }
