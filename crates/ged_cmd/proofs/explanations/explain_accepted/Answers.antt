use Rattle.ged_cmd.proofs.ToldLemmas.{some_more}
use Rattle.ged_cmd.proofs.explanations.explain_accepted.Goals as goal

pub loop-notice-preserved : goal.loop-notice-preserved
loop-notice-preserved g c =
    some_more (λ s. g.E.Write.contents s.device) (λ s. s.failed) c.args.errors.now c.loop-notice.errors c.write_text.new.errors c.loop-notice.invariant c.write_text.ensures.some

pub returns : goal.returns
returns g c =
    some_more (λ s. g.E.Write.contents s.device) (λ s. s.failed) c.args.errors.now c.loop-notice.errors c.tell_more.new.errors c.loop-notice.invariant c.tell_more.ensures
