use Rattle.std.proofs.Common.{Bool, sym, subst}
use Rattle.ged_cmd.specs.Streams.{writer}
use Rattle.ged_cmd.specs.Telling.{IsTold}
use Rattle.ged_cmd.specs.inner.Tasks.{task_of}
use Rattle.ged_cmd.proofs.ToldLemmas.{tells, told_alone, told_more}
use Rattle.ged_cmd.proofs.explanations.finish_told.Goals as goal

pub returns-then-explains-clause-told : goal.returns-then-explains-clause-told
returns-then-explains-clause-told g c =
    let task = task_of c.args.request in
    let outcome = c.args.told.now.outcome in
    let errors = writer (λ s. g.E.Write.contents s.device) (λ s. s.failed) c.args.errors.now c.explain.new.errors in
    tells c.args.explains task outcome errors (λ sound. subst (λ (explains : Bool). IsTold explains task outcome errors) (sym c.if-explains.true)
    (told_more (λ s. g.E.Write.contents s.device) (λ s. s.failed) task outcome c.args.errors.now c.finish-status.new.errors c.explain.new.errors
    c.finish-status.ensures.told c.explain.ensures.some c.explain.ensures.none sound))

pub returns-else-explains-clause-told : goal.returns-else-explains-clause-told
returns-else-explains-clause-told g c =
    let task = task_of c.args.request in
    let outcome = c.args.told.now.outcome in
    let errors = writer (λ s. g.E.Write.contents s.device) (λ s. s.failed) c.args.errors.now c.finish-status.new.errors in
    tells c.args.explains task outcome errors (λ sound.
    told_alone (λ s. g.E.Write.contents s.device) (λ s. s.failed) c.args.explains task outcome c.args.errors.now c.finish-status.new.errors c.finish-status.ensures.told sound)
