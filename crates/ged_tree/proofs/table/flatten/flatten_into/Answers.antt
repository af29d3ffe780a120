use Rattle.std.proofs.Common.{rules, ◌<◌, ◌^◌, ap, length, arith}
use Rattle.ged_line.specs.Spelling.{LineText}
use Rattle.ged_line.specs.Pieces.{IsFirstPiece, pieces_of}
use Rattle.ged_line.proofs.CallerLemmas.{first_of_pieces}
use Rattle.ged_tree.proofs.theory.Building.{file_of_lines}
use Rattle.ged_tree.proofs.table.Flattening.{taken_in, begun_in, count_fits_in, lines_few_in, slice_of_rest, taken_more_in, fault_told, stopped, read_all, unended}
use Rattle.ged_tree.proofs.table.flatten.flatten_into.Goals as goal

pub loop-line-init : goal.loop-line-init
loop-line-init g c = record { utf8 = c.utf8.text; taken = begun_in c.args.text.now c.args.table c.requires.lines c.requires.file; read = λ h. h }

pub take-requires-clause-few : goal.take-requires-clause-few
take-requires-clause-few g c =
    let small : length c.args.text.now < 2 ^ 63 = search rules in
    omega (arith, count_fits_in c.args.text.now c.loop-line.table c.loop-line.rest.now c.loop-line.invariant.taken, small)

pub take-requires-clause-line : goal.take-requires-clause-line
take-requires-clause-line g c =
    let step = rw c.in-Ok.is at c.in-Some.ensures.line in
    record {
      text = rw step.2.1 step.2.0;
      slice = rw step.2.1 (slice_of_rest c.args.text.now c.loop-line.table c.loop-line.rest.now step.0 c.in-Some.after.now c.in-Ok.line.line c.loop-line.invariant.taken step.1 step.2.0 c.loop-line.invariant.utf8);
    }

pub returns-in-Err-take-clause-fault : goal.returns-in-Err-take-clause-fault
returns-in-Err-take-clause-fault g c = λ file mark.
    let taken = taken_in c.args.text.now c.loop-line.table c.loop-line.rest.now c.loop-line.invariant.taken file mark in
    let step = c.in-Some.ensures.line in
    let text = rw c.in-Ok.is at step.2 in
    fault_told file c.loop-line.table (pieces_of c.loop-line.rest.now) (pieces_of c.in-Some.after.now) step.0 c.in-Ok.line.line taken (first_of_pieces c.loop-line.rest.now step.0 c.in-Some.after.now step.1) text.0 c.in-Err-take.fault (c.in-Err-take.ensures taken.lines taken.holds)

pub overflow_add-line : goal.overflow_add-line
overflow_add-line g c =
    let small : length c.args.text.now < 2 ^ 63 = search rules in
    omega (arith, count_fits_in c.args.text.now c.loop-line.table c.loop-line.rest.now c.loop-line.invariant.taken, small)

pub returns-in-Err-clause-fault : goal.returns-in-Err-clause-fault
returns-in-Err-clause-fault g c = λ file mark.
    let taken = taken_in c.args.text.now c.loop-line.table c.loop-line.rest.now c.loop-line.invariant.taken file mark in
    let step = c.in-Some.ensures.line in
    let fault = rw c.in-Err.is at step.2 in
    stopped file c.loop-line.table (pieces_of c.loop-line.rest.now) (pieces_of c.in-Some.after.now) step.0 c.in-Err.fault (first_of_pieces c.loop-line.rest.now step.0 c.in-Some.after.now step.1) fault taken

pub hand_over-requires : goal.hand_over-requires
hand_over-requires g c = (let taken = c.loop-line.invariant.taken in (c.in-Ok-take.ensures taken.lines taken.holds).0)

pub loop-line-preserved : goal.loop-line-preserved
loop-line-preserved g c =
    let taken = c.loop-line.invariant.taken in
    let rest = c.loop-line.rest.now in
    let after = c.in-Some.after.now in
    let line = c.in-Ok.line in
    let step = c.in-Some.ensures.line in
    let text = rw c.in-Ok.is at step.2 in
    let first : IsFirstPiece rest line.text.now after = rw text.1 step.1 in
    let spelled : LineText line.line line.text.now = rw text.1 text.0 in
    record {
      utf8 = c.in-Some.ensures.utf8;
      taken = taken_more_in c.args.text.now c.loop-line.table rest line.text.now after line.line taken first spelled c.take.new.self (c.in-Ok-take.ensures taken.lines taken.holds).1 (c.in-Ok-take.ensures taken.lines taken.holds).2;
      read = λ h. c.in_default-hand_over.ensures taken.lines (c.loop-line.invariant.read h);
    }

pub finish-requires-clause-few : goal.finish-requires-clause-few
finish-requires-clause-few g c =
    let small : length c.args.text.now < 2 ^ 63 = search rules in
    omega (arith, count_fits_in c.args.text.now c.loop-line.table c.loop-line.rest.now c.loop-line.invariant.taken, small)

pub finish-requires-clause-lines : goal.finish-requires-clause-lines
finish-requires-clause-lines g c =
    let taken = c.loop-line.invariant.taken in
    let small : length c.args.text.now < 2 ^ 63 = search rules in
    (taken.lines, taken.holds, omega (arith, lines_few_in c.args.text.now c.loop-line.table c.loop-line.rest.now taken, small))

pub returns-in-Ok-finish-clause-document : goal.returns-in-Ok-finish-clause-document
returns-in-Ok-finish-clause-document g c = λ file mark.
    let all = c.loop-line.invariant.taken in
    let taken = taken_in c.args.text.now c.loop-line.table c.loop-line.rest.now all file mark in
    let small : length c.args.text.now < 2 ^ 63 = search rules in
    let few : length all.lines < 2 ^ 63 = omega (arith, lines_few_in c.args.text.now c.loop-line.table c.loop-line.rest.now all, small) in
    file_of_lines _ all.lines file (read_all file c.loop-line.table (pieces_of c.loop-line.rest.now) taken (ap pieces_of c.in_default.ensures.line)) (c.in-Ok-finish.ensures all.lines all.holds few)

pub returns-in-Ok-finish-clause-read : goal.returns-in-Ok-finish-clause-read
returns-in-Ok-finish-clause-read g c =
    let all = c.loop-line.invariant.taken in
    let small : length c.args.text.now < 2 ^ 63 = search rules in
    let few : length all.lines < 2 ^ 63 = omega (arith, lines_few_in c.args.text.now c.loop-line.table c.loop-line.rest.now all, small) in
    rw (c.in-Ok-finish.ensures all.lines all.holds few).told at c.loop-line.invariant.read

pub returns-in-Err-finish-clause-fault : goal.returns-in-Err-finish-clause-fault
returns-in-Err-finish-clause-fault g c = λ file mark.
    let all = c.loop-line.invariant.taken in
    let taken = taken_in c.args.text.now c.loop-line.table c.loop-line.rest.now all file mark in
    let small : length c.args.text.now < 2 ^ 63 = search rules in
    let few : length all.lines < 2 ^ 63 = omega (arith, lines_few_in c.args.text.now c.loop-line.table c.loop-line.rest.now all, small) in
    unended file all.lines c.in-Err-finish.fault (read_all file c.loop-line.table (pieces_of c.loop-line.rest.now) taken (ap pieces_of c.in_default.ensures.line)) (c.in-Err-finish.ensures all.lines all.holds few) all.holds.pass
