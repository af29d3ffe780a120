use Rattle.std.proofs.Common.{sym, ◌∙◌}
use Rattle.ged_uses.proofs.Counting.{counted_one, counted_other, counted_all, same_tag, other_tag, no_tag}
use Rattle.ged_uses.proofs.lines.count_lines.Goals as goal

pub loop-line-preserved-then-eq : goal.loop-line-preserved-then-eq
loop-line-preserved-then-eq c =
    let step = c.in-Some.ensures.steps in
    let text = rw c.in-Ok.is at step.2 in
    let has = same_tag c.args.tag.now step.0 c.in-Ok.spelled.line c.tag.result.now text.0 c.tag.ensures.tag (sym c.eq.ensures ∙ c.if-eq.true) in
    counted_one c.args.tag.now c.args.bytes.now c.loop-line.count c.loop-line.line-iterator c.next.new.self step.0 step.1 has c.loop-line.invariant

pub loop-line-preserved-else-eq : goal.loop-line-preserved-else-eq
loop-line-preserved-else-eq c =
    let step = c.in-Some.ensures.steps in
    let text = rw c.in-Ok.is at step.2 in
    let not = other_tag c.args.tag.now step.0 c.in-Ok.spelled.line c.tag.result.now text.0 c.tag.ensures.tag (sym c.eq.ensures ∙ c.if-eq.false) in
    counted_other c.args.tag.now c.args.bytes.now c.loop-line.count c.loop-line.line-iterator c.next.new.self step.0 step.1 not c.loop-line.invariant

pub loop-line-preserved : goal.loop-line-preserved
loop-line-preserved c =
    let step = c.in-Some.ensures.steps in
    let not = no_tag c.args.tag.now step.0 c.in-Some.line step.2 c.in_default.not-Ok in
    counted_other c.args.tag.now c.args.bytes.now c.loop-line.count c.loop-line.line-iterator c.next.new.self step.0 step.1 not c.loop-line.invariant

pub returns : goal.returns
returns c = counted_all c.args.tag.now c.args.bytes.now c.loop-line.count c.loop-line.line-iterator c.in-None.ensures.steps.0 c.loop-line.invariant
