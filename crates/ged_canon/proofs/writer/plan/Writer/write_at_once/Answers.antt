use Rattle.std.proofs.Common.{◌≡◌, ◌++◌, None, false, length, refl, sym, ap, ◌∙◌, subst}
use Rattle.ged_line.specs.Spelling.{value_part}
use Rattle.ged_tree.specs.Trees.{further_lines}
use Rattle.ged_tree.specs.DocumentLines.{first_value, rest_of_line}
use Rattle.ged_tree.specs.Places.{structure_at}
use Rattle.ged_tree.specs.Views.{is_pointer}
use Rattle.ged_schema.specs.Tables.{row}
use Rattle.ged_canon.specs.inner.Working.{number_of}
use Rattle.ged_canon.specs.inner.Written.{written}
use Rattle.ged_canon.proofs.writer.PlainLines.{TellsPlain, plain_brief, plain_line, none_further}
use Rattle.ged_canon.proofs.writer.plan.Writer.write_at_once.Goals as goal

pub returns-in-Some-clause-lines : goal.returns-in-Some-clause-lines
returns-in-Some-clause-lines g c = λ names h t.
    let d = g.F.Forest.trees c.args.self.now.forest.now in
    let edition = c.args.self.now.plan.edition in
    let context = c.args._context in
    let tag = (structure_at d c.args.place).tag in
    let rest = rest_of_line (structure_at d c.args.place) in
    let p = (structure_at d c.args.place).payload in
    let is : rest ≡ tag ++ value_part (first_value p) = refl in
    c.in_ok-push_run.ensures
    ∙ ap (λ text. written c.args.self.now.plan.file.now c.args.work.now.answer ++ text)
    (c.in-Some.ensures.line
    ∙ plain_line edition (row context tag) (number_of 1 names) c.args.level None tag p rest c.in-Some.ensures.value c.in-Some.ensures.alone (plain_brief edition context tag rest p c.in-Some.ensures.first is c.in-Some.ensures.plain) is)

pub returns-clause-lines : goal.returns-clause-lines
returns-clause-lines g c = λ names h t.
    let d = g.F.Forest.trees c.args.self.now.forest.now in
    let edition = c.args.self.now.plan.edition in
    let context = c.args._context in
    let tag = (structure_at d c.args.place).tag in
    let rest = c.in-Some-own_line.line.rest.now in
    let p = (structure_at d c.args.place).payload in
    let is : rest ≡ tag ++ value_part (first_value p) = c.in-Some-own_line.ensures.rest in
    let value : is_pointer p ≡ false = sym c.in-Some-own_line.ensures.points ∙ c.if-line.false in
    let alone : length (further_lines p) ≡ 0 = none_further (length (further_lines p)) c.has_further.result c.has_further.ensures c.if-has_further.false in
    let tells : TellsPlain tag rest = subst (λ front. TellsPlain front rest) c.in-Some-own_line.ensures.tag (c.if-not-stays.ensures.plain refl) in
    c.in_ok-push_own_line.ensures
    ∙ ap (λ text. written c.args.self.now.plan.file.now c.args.work.now.answer ++ text)
    (plain_line edition (row context tag) (number_of 1 names) c.args.level None tag p rest value alone (plain_brief edition context tag rest p (c.if-not-stays.ensures.first refl) is tells) is)
