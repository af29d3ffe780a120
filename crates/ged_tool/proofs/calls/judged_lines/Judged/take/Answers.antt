use Rattle.std.proofs.Common.{rules, refl, ◌<◌, ◌+◌, ◌++◌, ◌^◌, length, length-append, arith}
use Rattle.ged_tool.proofs.calls.Judging.{judging_start, count_fits, judging_more, told_at_piece, told_at_line, judging_end}
use Rattle.ged_tool.proofs.calls.judged_lines.Judged.take.Goals as goal

pub loop-spelled-init : goal.loop-spelled-init
loop-spelled-init c =
    rw c.into_iter-spelled-iterator.ensures.into_iter_gives
    (judging_start c.args.front.now c.args.more.now c.args.self.now c.further_lines-spelled-items.result c.requires.judged c.further_lines-spelled-items.ensures)

pub overflow_add-line : goal.overflow_add-line
overflow_add-line c =
    let fits = count_fits (c.args.front.now ++ c.args.more.now) c.loop-spelled.self c.loop-spelled.spelled-iterator c.next.new.self c.in-Some.ensures.steps.0 c.loop-spelled.invariant c.in-Some.ensures.steps.1 in
    let first : length c.args.front.now < 2 ^ 63 = search rules in
    let second : length c.args.more.now < 2 ^ 63 = search rules in
    omega (arith, fits, length-append c.args.front.now c.args.more.now)

pub returns-in-Err-line : goal.returns-in-Err-line
returns-in-Err-line c =
    let step = c.in-Some.ensures.steps in
    let text = rw c.in-Ok.is at step.2 in
    told_at_line (c.args.front.now ++ c.args.more.now) c.loop-spelled.self c.loop-spelled.spelled-iterator c.next.new.self step.0 c.loop-spelled.invariant step.1
    c.in-Ok.spelled.line c.in-Err-line.fault (c.loop-spelled.self.count + 1) text.0 c.in-Err-line.ensures.refuses.1 refl

pub returns-in-Err : goal.returns-in-Err
returns-in-Err c =
    let step = c.in-Some.ensures.steps in
    let fault = rw c.in-Err.is at step.2 in
    told_at_piece (c.args.front.now ++ c.args.more.now) c.loop-spelled.self c.loop-spelled.spelled-iterator c.next.new.self step.0 c.loop-spelled.invariant step.1
    c.in-Err.fault (c.loop-spelled.self.count + 1) fault refl

pub loop-spelled-preserved : goal.loop-spelled-preserved
loop-spelled-preserved c =
    let step = c.in-Some.ensures.steps in
    let text = rw c.in-Ok.is at step.2 in
    judging_more (c.args.front.now ++ c.args.more.now) c.loop-spelled.self c.loop-spelled.spelled-iterator c.next.new.self step.0 c.loop-spelled.invariant step.1
    c.line.new.self c.in-Ok.spelled.line (c.loop-spelled.self.count + 1) text.0 c.in_default.ensures.takes refl

pub returns : goal.returns
returns c = judging_end (c.args.front.now ++ c.args.more.now) c.loop-spelled.self c.loop-spelled.spelled-iterator c.loop-spelled.invariant c.in-None.ensures.steps.0
