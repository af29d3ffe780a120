use Rattle.std.proofs.Common.{◌≡◌, ◌+◌, ◌≤◌, length, drop, arith}
use Rattle.ged_line.specs.Files.{joined_parts}
use Rattle.ged_c.proofs.Putting.{next_size}
use Rattle.ged_c.proofs.respelling.length_of.Goals as goal
use Rattle.ged_tool.specs.Limits.{greatest_limit}

pub loop-part-preserved : goal.loop-part-preserved
loop-part-preserved c =
    let counted : c.loop-part.length + length (joined_parts (drop c.loop-part.part-index c.args.parts.now)) ≡ length (joined_parts c.args.parts.now) = c.loop-part.invariant in
    omega (arith, counted, next_size c.args.parts.now c.loop-part.part-index c.part-item.result c.loop-part-test.true c.part-item.is, c.len.ensures)

pub overflow_add-length-in-loop-part : goal.overflow_add-length-in-loop-part
overflow_add-length-in-loop-part c =
    let counted : c.loop-part.length + length (joined_parts (drop c.loop-part.part-index c.args.parts.now)) ≡ length (joined_parts c.args.parts.now) = c.loop-part.invariant in
    let most : length (joined_parts c.args.parts.now) ≤ greatest_limit + 4 = c.requires in
    omega (arith, counted, most, next_size c.args.parts.now c.loop-part.part-index c.part-item.result c.loop-part-test.true c.part-item.is, c.len.ensures)
