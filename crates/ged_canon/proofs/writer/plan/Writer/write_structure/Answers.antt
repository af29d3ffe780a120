use Rattle.std.proofs.Common.{◌≡◌, ◌+◌, ◌++◌, ◌∷◌, [], OnOk, sym, ap, ◌∙◌, subst}
use Rattle.std.specs.Option.{option_copied}
use Rattle.ged_line.specs.Spelling.{spelled_lines}
use Rattle.ged_tree.specs.Laws.{own_line}
use Rattle.ged_tree.specs.Places.{structure_at}
use Rattle.ged_tree.specs.inner.DocumentParts.{continued}
use Rattle.ged_canon.specs.inner.Working.{number_of}
use Rattle.ged_canon.specs.inner.Writing.{row_of, renamed_sibling, further_at}
use Rattle.ged_canon.specs.inner.Written.{written}
use Rattle.ged_canon.proofs.writer.OwnLines.{further_kept}
use Rattle.ged_canon.proofs.writer.RunsWritten.{written_below}
use Rattle.ged_canon.proofs.writer.plan.Writer.write_structure.Goals as goal

pub returns-clause-lines : goal.returns-clause-lines
returns-clause-lines g c = λ names h.
    let d = g.F.Forest.trees c.args.self.now.forest.now in
    let file = c.args.self.now.plan.file.now in
    let new = number_of 1 names in
    let sibling = c.args.sibling in
    let r = row_of c.args.rule in
    let p = (structure_at d sibling.place).payload in
    let own = own_line c.args.level (renamed_sibling new c.args.self.now.plan.edition r (option_copied c.args.xref) d sibling) in
    subst (λ text. OnOk c.write_further.result (written file c.write_further.new.answer ≡ text))
    (written_below (written file c.args.work.now.answer) (written file c.write_own.new.work.answer) (own ∷ []) (further_at d sibling.place c.args.level) (c.in_ok-write_own.ensures.lines names h)
    ∙ ap (λ lines. written file c.args.work.now.answer ++ spelled_lines (own ∷ continued (c.args.level + 1) lines)) (sym (further_kept new c.args.self.now.plan.edition r p)))
    c.write_further.ensures
