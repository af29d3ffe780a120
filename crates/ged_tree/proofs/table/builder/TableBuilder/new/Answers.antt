use Rattle.std.proofs.Common.{refl}
use Rattle.ged_tree.specs.TreeFaults.{start}
use Rattle.ged_tree.proofs.table.Taking.{none_kept}
use Rattle.ged_tree.proofs.table.builder.TableBuilder.new.Goals as goal

pub returns-clause-lines : goal.returns-clause-lines
returns-clause-lines c = record {
  judged = c.new.ensures;
  pass = start;
  are_lines = refl;
  counted = refl;
  structures = rw c.new-2.ensures.items refl;
  places = rw (c.new-5.ensures.slices, c.new-5.ensures.apart) refl;
  further = rw (c.new-5.ensures.slices, c.new-5.ensures.apart) refl;
  kept = none_kept _ c.new-2.ensures.items c.new-4.ensures.items c.new-5.ensures.slices c.new-3.ensures;
}
