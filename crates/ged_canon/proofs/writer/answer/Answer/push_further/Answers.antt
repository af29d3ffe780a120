use Rattle.std.proofs.Common.{◌<◌, ◌≤◌, ◌+◌, ◌++◌, length, refl, sym, ap, ◌∙◌, append-nil, arith}
use Rattle.std.proofs.lemmas.List.{take_all}
use Rattle.ged_line.specs.Spelling.{spelled_lines}
use Rattle.ged_tree.specs.inner.DocumentParts.{continued}
use Rattle.ged_canon.specs.inner.Written.{written}
use Rattle.ged_canon.proofs.writer.OwnLines.{cont_line, plain_at, further_more}
use Rattle.ged_canon.proofs.writer.answer.Answer.push_further.Goals as goal

pub loop-number-init : goal.loop-number-init
loop-number-init c = sym (append-nil (written c.args.file.now c.args.self.now))

pub push_cont-requires : goal.push_cont-requires
push_cont-requires c =
    let further = c.args.further.now in
    let within : c.loop-number.number < length further = omega (arith, c.loop-number-test.true, c.count-number-end.ensures) in
    let some : 0 < length further = omega (arith, within) in
    cont_line c.args.level c.line.result.now (c.requires.room some) (plain_at further c.loop-number.number c.line.result.now c.requires.plain within c.line.ensures)

pub loop-number-preserved : goal.loop-number-preserved
loop-number-preserved c =
    let further = c.args.further.now in
    let within : c.loop-number.number < length further = omega (arith, c.loop-number-test.true, c.count-number-end.ensures) in
    further_more (written c.args.file.now c.args.self.now) (written c.args.file.now c.loop-number.self) (written c.args.file.now c.push_cont.new.self) (c.args.level + 1) further c.loop-number.number c.line.result.now _ within c.line.ensures refl c.loop-number.invariant c.in_ok-push_cont.ensures

pub returns : goal.returns
returns c =
    let further = c.args.further.now in
    let most : length further ≤ c.loop-number.number = omega (arith, c.loop-number-test.false, c.count-number-end.ensures) in
    c.loop-number.invariant ∙ ap (λ xs. written c.args.file.now c.args.self.now ++ spelled_lines (continued (c.args.level + 1) xs)) (take_all c.loop-number.number further most)
