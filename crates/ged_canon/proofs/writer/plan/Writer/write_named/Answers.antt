use Rattle.std.proofs.Common.{◌+◌, ◌++◌, ◌≡◌, Some, OnOk, option_map, sym, ap, ◌∙◌, subst, append-nil, arith}
use Rattle.std.specs.Option.{option_copied}
use Rattle.ged_line.specs.Spelling.{spelled_lines}
use Rattle.ged_tree.specs.Trees.{none}
use Rattle.ged_tree.specs.DocumentLines.{structure_lines, lines_of}
use Rattle.ged_tree.specs.Places.{below_at}
use Rattle.ged_tree.proofs.CallerLemmas.{run_ends}
use Rattle.ged_schema.specs.Rows.{as_row}
use Rattle.ged_schema.specs.Tables.{below_row}
use Rattle.ged_canon.specs.Normal.{numbered}
use Rattle.ged_canon.specs.Steps.{renamed}
use Rattle.ged_canon.specs.inner.Working.{number_of, sorted}
use Rattle.ged_canon.specs.inner.Writing.{renamed_sibling}
use Rattle.ged_canon.specs.inner.Written.{written}
use Rattle.ged_canon.proofs.writer.RunsWritten.{written_below}
use Rattle.ged_canon.proofs.writer.plan.Writer.write_named.Goals as goal

-- nothing stands below the record
pub returns-then-start-end : goal.returns-then-start-end
returns-then-start-end g c = λ names h.
    let d = g.F.Forest.trees c.args.self.now.forest.now in
    let edition = c.args.self.now.plan.edition in
    let new = number_of 1 names in
    let r = option_map as_row (option_copied c.args.rule) in
    let can = c.requires.stands in
    let leaf : below_at d c.args.own.place ≡ none = sym can.deeper ∙ run_ends d (c.args.own.place + 1) c.args.end (omega arith) in
    let own = structure_lines 0 (renamed_sibling new edition r (Some (numbered c.args.number)) d c.args.own) in
    c.in_ok-write_numbered.ensures.lines new c.if-branch.true
    ∙ ap (λ ls. written c.args.self.now.plan.file.now c.args.work.now.answer ++ spelled_lines ls) (sym (append-nil own))
    ∙ ap (λ t. written c.args.self.now.plan.file.now c.args.work.now.answer ++ spelled_lines (own ++ lines_of 1 (renamed new (sorted edition (below_row r) t)))) (sym leaf)

pub returns-then-branch : goal.returns-then-branch
returns-then-branch g c = λ names h.
    let d = g.F.Forest.trees c.args.self.now.forest.now in
    let edition = c.args.self.now.plan.edition in
    let new = number_of 1 names in
    let r = option_map as_row (option_copied c.args.rule) in
    let can = c.requires.stands in
    let own = structure_lines 0 (renamed_sibling new edition r (Some (numbered c.args.number)) d c.args.own) in
    subst (λ text. OnOk c.write_run.result (written c.args.self.now.plan.file.now c.write_run.new.work.answer ≡ text))
    ((λ i. written c.args.self.now.plan.file.now c.write_numbered.new.answer ++ spelled_lines (lines_of 1 (renamed new (sorted edition (c.context_below.ensures i) (can.deeper i)))))
    ∙ written_below (written c.args.self.now.plan.file.now c.args.work.now.answer) (written c.args.self.now.plan.file.now c.write_numbered.new.answer) own (lines_of 1 (renamed new (sorted edition (below_row r) (below_at d c.args.own.place)))) (c.in_ok-write_numbered.ensures.lines new c.if-branch.true))
    (c.write_run.ensures.lines names h)
