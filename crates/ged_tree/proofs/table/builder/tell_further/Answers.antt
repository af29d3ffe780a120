use Rattle.std.proofs.Common.{◌-◌, arith}
use Rattle.std.proofs.lemmas.Bool.{lt-ltb}
use Rattle.std.proofs.lemmas.List.{length-set}
use Rattle.ged_tree.proofs.table.PackedStructures.{tells_further}
use Rattle.ged_tree.proofs.table.builder.tell_further.Goals as goal

pub returns : goal.returns
returns c =
    let items = c.args.structures.now.items in
    let last = c.len-count.result - 1 in
    let s = c.index-structure.result.now in
    let mark = c.mark_with_further.result in
    tells_further items last s mark c.index-structure.ensures (omega (arith, c.len-count.ensures, c.args.structures.now.ok.0, c.if-count-eq0.false))
    c.mark_with_further.ensures.level (lt-ltb 127 mark c.mark_with_further.ensures.further) (length-set items last _)
