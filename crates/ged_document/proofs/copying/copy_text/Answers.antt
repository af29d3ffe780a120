use Rattle.std.proofs.Common.{arith}
use Rattle.ged_tree.specs.Trees.{further_lines}
use Rattle.ged_tree.specs.Places.{structure_at}
use Rattle.ged_document.proofs.Copies.{text_more}
use Rattle.ged_document.proofs.copying.copy_text.Goals as goal

pub loop-number-preserved : goal.loop-number-preserved
loop-number-preserved g c =
    let further = further_lines (structure_at (g.F.Forest.trees c.args.forest.now) c.args.place).payload in
    text_more c.loop-number.lines.items c.push-in-loop-number.new.self.items further c.args.first.now c.further_line.result.now c.loop-number.number c.loop-number.invariant (omega (arith, c.loop-number-test.true, c.loop-number.auto.number-end, c.further-number-end.ensures)) c.further_line.ensures (rw (← c.in_ok-from_str-2.ensures) c.in_ok-push-2.ensures.items)
