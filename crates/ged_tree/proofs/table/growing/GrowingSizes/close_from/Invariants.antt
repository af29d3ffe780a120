use Rattle.std.proofs.Common.{◌≡◌, ◌≤◌, ◌-◌, length, max}
use Rattle.ged_tree.specs.inner.Growing.{Closes}
use Rattle.ged_tree.proofs.table.growing.GrowingSizes.close_from.Given as goal

abbrev pub invariant-loop-next : goal.invariant-loop-next
invariant-loop-next l = record {
  from : l.level ≤ l.next;
  to : l.next ≤ max l.level l.last;
  count : l.count ≤ length l.self.sizes.bytes.items;
  places : l.self.places ≡ l.fn.self.places;
  closes : Closes l.fn.self.places l.level l.next l.count l.fn.self.sizes l.self.sizes;
}

abbrev pub decreases-loop-next : goal.decreases-loop-next
decreases-loop-next l = l.last - l.next
