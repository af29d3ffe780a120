use Rattle.std.proofs.Common.{◌<◌, ◌≤◌, ◌+◌, ◌++◌, length, sym, ap, ◌∙◌, append-nil, arith, codes}
use Rattle.std.proofs.lemmas.List.{take_all}
use Rattle.ged_line.specs.Lines.{is_line, line_parts}
use Rattle.ged_line.specs.Spelling.{spelled_lines}
use Rattle.ged_tree.specs.Trees.{further_lines}
use Rattle.ged_tree.specs.Places.{structure_at}
use Rattle.ged_tree.specs.inner.DocumentParts.{continued}
use Rattle.std.specs.Prelude.{None}
use Rattle.ged_canon.specs.inner.Written.{written}
use Rattle.ged_canon.proofs.writer.OwnLines.{cont_line, plain_at, further_more}
use Rattle.ged_canon.proofs.writer.plan.Writer.write_each_further.Goals as goal

pub loop-number-init : goal.loop-number-init
loop-number-init g c = sym (append-nil (written c.args.self.now.plan.file.now c.args.answer.now))

pub further_line-requires-clause-further : goal.further_line-requires-clause-further
further_line-requires-clause-further g c = omega (arith, c.loop-number-test.true, c.further-number-end.ensures)

pub push_parts-requires : goal.push_parts-requires
push_parts-requires g c =
    let further = further_lines (structure_at (g.F.Forest.trees c.args.self.now.forest.now) c.args.place).payload in
    let within : c.loop-number.number < length further = omega (arith, c.loop-number-test.true, c.further-number-end.ensures) in
    let some : 0 < length further = omega (arith, within) in
    ap (λ v. is_line (line_parts (c.args.level + 1) None (codes "CONT") v)) c.text_value-value.ensures
    ∙ cont_line c.args.level c.further_line.result.now (c.requires.room some) (plain_at further c.loop-number.number c.further_line.result.now c.requires.plain within c.further_line.ensures)

pub loop-number-preserved : goal.loop-number-preserved
loop-number-preserved g c =
    let further = further_lines (structure_at (g.F.Forest.trees c.args.self.now.forest.now) c.args.place).payload in
    let within : c.loop-number.number < length further = omega (arith, c.loop-number-test.true, c.further-number-end.ensures) in
    further_more (written c.args.self.now.plan.file.now c.args.answer.now) (written c.args.self.now.plan.file.now c.loop-number.answer) (written c.args.self.now.plan.file.now c.push_parts.new.self) (c.args.level + 1) further c.loop-number.number c.further_line.result.now _ within c.further_line.ensures c.text_value-value.ensures c.loop-number.invariant c.in_ok-push_parts.ensures

pub returns : goal.returns
returns g c =
    let further = further_lines (structure_at (g.F.Forest.trees c.args.self.now.forest.now) c.args.place).payload in
    let most : length further ≤ c.loop-number.number = omega (arith, c.loop-number-test.false, c.further-number-end.ensures) in
    c.loop-number.invariant ∙ ap (λ xs. written c.args.self.now.plan.file.now c.args.answer.now ++ spelled_lines (continued (c.args.level + 1) xs)) (take_all c.loop-number.number further most)
