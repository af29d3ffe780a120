use Rattle.std.proofs.Common.{rules, ◌<◌, ◌^◌, length, arith}
use Rattle.ged_tree.proofs.theory.Building.{file_of_lines}
use Rattle.ged_tree.proofs.table.Flattening.{begun, taken_more, count_fits, fault_told, lines_few, read_all, stopped, unended}
use Rattle.ged_tree.proofs.table.flatten.flatten_lines.Goals as goal

pub loop-line-init : goal.loop-line-init
loop-line-init g c = record {
  taken = begun c.args.bytes.now c.new-table.result c.into_iter-line-iterator.result (rw c.into_iter-line-iterator.ensures.into_iter_gives c.view_lines-line-items.ensures.pieces) c.new-table.ensures.lines;
  read = λ h. h;
}

pub take-requires-clause-few : goal.take-requires-clause-few
take-requires-clause-few g c =
    let small : length c.args.bytes.now < 2 ^ 63 = search rules in
    omega (arith, count_fits c.args.bytes.now c.loop-line.table c.loop-line.line-iterator c.loop-line.invariant.taken, small)

pub take-requires-clause-line : goal.take-requires-clause-line
take-requires-clause-line g c =
    let step = c.in-Some.ensures.steps in
    let text = rw c.in-Ok.is at step.2 in
    record { text = rw text.1 text.0; slice = tt }

pub returns-in-Err-take-clause-fault : goal.returns-in-Err-take-clause-fault
returns-in-Err-take-clause-fault g c =
    let taken = c.loop-line.invariant.taken in
    let step = c.in-Some.ensures.steps in
    let text = rw c.in-Ok.is at step.2 in
    fault_told c.args.bytes.now c.loop-line.table c.loop-line.line-iterator c.next.new.self step.0 c.in-Ok.line.line taken step.1 text.0 c.in-Err-take.error (c.in-Err-take.ensures taken.lines taken.holds)

pub hand_over-requires : goal.hand_over-requires
hand_over-requires g c = (let taken = c.loop-line.invariant.taken in (c.in-Ok-take.ensures taken.lines taken.holds).0)

pub loop-line-preserved : goal.loop-line-preserved
loop-line-preserved g c =
    let taken = c.loop-line.invariant.taken in
    let step = c.in-Some.ensures.steps in
    let text = rw c.in-Ok.is at step.2 in
    record {
      taken = taken_more c.args.bytes.now c.loop-line.table c.take.new.self c.loop-line.line-iterator c.next.new.self step.0 c.in-Ok.line.line taken step.1 text.0 (c.in-Ok-take.ensures taken.lines taken.holds).2;
      read = λ h. c.in_default.ensures taken.lines (c.loop-line.invariant.read h);
    }

pub overflow_add-line : goal.overflow_add-line
overflow_add-line g c =
    let small : length c.args.bytes.now < 2 ^ 63 = search rules in
    omega (arith, count_fits c.args.bytes.now c.loop-line.table c.loop-line.line-iterator c.loop-line.invariant.taken, small)

pub returns-in-Err-clause-fault : goal.returns-in-Err-clause-fault
returns-in-Err-clause-fault g c =
    let step = c.in-Some.ensures.steps in
    let fault = rw c.in-Err.is at step.2 in
    stopped c.args.bytes.now c.loop-line.table c.loop-line.line-iterator c.next.new.self step.0 c.in-Err.fault step.1 fault c.loop-line.invariant.taken

pub finish-requires-clause-few : goal.finish-requires-clause-few
finish-requires-clause-few g c =
    let small : length c.args.bytes.now < 2 ^ 63 = search rules in
    omega (arith, count_fits c.args.bytes.now c.loop-line.table c.loop-line.line-iterator c.loop-line.invariant.taken, small)

pub finish-requires-clause-lines : goal.finish-requires-clause-lines
finish-requires-clause-lines g c =
    let small : length c.args.bytes.now < 2 ^ 63 = search rules in
    (c.loop-line.invariant.taken.lines, c.loop-line.invariant.taken.holds, omega (arith, lines_few c.args.bytes.now c.loop-line.table c.loop-line.line-iterator c.loop-line.invariant.taken, small))

pub returns-in-Ok-finish-clause-document : goal.returns-in-Ok-finish-clause-document
returns-in-Ok-finish-clause-document g c =
    let taken = c.loop-line.invariant.taken in
    let small : length c.args.bytes.now < 2 ^ 63 = search rules in
    let few : length taken.lines < 2 ^ 63 = omega (arith, lines_few c.args.bytes.now c.loop-line.table c.loop-line.line-iterator taken, small) in
    file_of_lines _ taken.lines c.args.bytes.now (read_all c.args.bytes.now c.loop-line.table c.loop-line.line-iterator taken c.in-None.ensures.steps.0) (c.in-Ok-finish.ensures taken.lines taken.holds few)

pub returns-in-Ok-finish-clause-read : goal.returns-in-Ok-finish-clause-read
returns-in-Ok-finish-clause-read g c =
    let taken = c.loop-line.invariant.taken in
    let small : length c.args.bytes.now < 2 ^ 63 = search rules in
    let few : length taken.lines < 2 ^ 63 = omega (arith, lines_few c.args.bytes.now c.loop-line.table c.loop-line.line-iterator taken, small) in
    rw (c.in-Ok-finish.ensures taken.lines taken.holds few).told at c.loop-line.invariant.read

pub returns-in-Err-finish-clause-fault : goal.returns-in-Err-finish-clause-fault
returns-in-Err-finish-clause-fault g c =
    let taken = c.loop-line.invariant.taken in
    let small : length c.args.bytes.now < 2 ^ 63 = search rules in
    let few : length taken.lines < 2 ^ 63 = omega (arith, lines_few c.args.bytes.now c.loop-line.table c.loop-line.line-iterator taken, small) in
    unended c.args.bytes.now taken.lines c.in-Err-finish.fault (read_all c.args.bytes.now c.loop-line.table c.loop-line.line-iterator taken c.in-None.ensures.steps.0) (c.in-Err-finish.ensures taken.lines taken.holds few) taken.holds.pass
