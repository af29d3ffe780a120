use Rattle.ged_cmd.specs.Streams.{writer}
use Rattle.ged_cmd.specs.inner.Told.{WroteSome}
use Rattle.ged_cmd.proofs.explanations.explain_accepted.Given as goal

abbrev pub invariant-loop-notice : goal.invariant-loop-notice
invariant-loop-notice g l = WroteSome l.fn.errors.failed (writer (λ s. g.E.Write.contents s.device) (λ s. s.failed) l.fn.errors l.errors)
