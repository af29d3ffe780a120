use Rattle.std.proofs.Common.{◌++◌, ◌∙◌, ap, refl, slice_range, arith}
use Rattle.ged_canon.specs.SpelledForms.{joined_runs}
use Rattle.ged_canon.specs.inner.Written.{written}
use Rattle.ged_canon.proofs.writer.RunsKept.{goes_on}
use Rattle.ged_canon.proofs.writer.answer.Answer.push_run.Goals as goal

pub returns-then-self-start : goal.returns-then-self-start
returns-then-self-start c =
    let file = c.args.file.now in
    let old = c.args.self.now in
    let end = c.args.end in
    goes_on file (written file old) (joined_runs file old.pieced.runs.items old.pieced.made.items) old.start old.end end
    old.order (omega (arith, c.requires, c.if-self-start.true)) refl
    ∙ ap (λ n. written file old ++ slice_range file n end) c.if-self-start.true
