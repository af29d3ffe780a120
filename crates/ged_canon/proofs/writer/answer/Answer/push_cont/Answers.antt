use Rattle.std.proofs.Common.{◌++◌, ◌∙◌, ap, refl}
use Rattle.ged_canon.specs.SpelledForms.{joined_runs}
use Rattle.ged_canon.specs.inner.Written.{written}
use Rattle.ged_canon.proofs.writer.RunsKept.{goes_on}
use Rattle.ged_canon.proofs.writer.answer.Answer.push_cont.Goals as goal

pub returns-in-Some : goal.returns-in-Some
returns-in-Some c =
    let file = c.args.file.now in
    let old = c.args.self.now in
    goes_on file (written file old) (joined_runs file old.pieced.runs.items old.pieced.made.items) old.start old.end c.in-Some.end
    old.order c.in-Some.ensures.order.0 refl
    ∙ ap (λ xs. written file old ++ xs) c.in-Some.ensures.line
