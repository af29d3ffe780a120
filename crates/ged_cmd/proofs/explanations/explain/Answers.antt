use Rattle.std.proofs.Common.{string_bytes}
use Rattle.ged_cmd.proofs.ToldLemmas.{nothing, wrote_any}
use Rattle.ged_cmd.proofs.explanations.explain.Goals as goal

pub returns-in-Failed-clause-fault : goal.returns-in-Failed-clause-fault
returns-in-Failed-clause-fault g c =
    let explained = rw c.deref.ensures.value at c.text_of.ensures in
    rw c.in-Failed.is (
      c.name_of-name.result.now,
      (c.name_of-name.ensures.written, c.name_of-name.ensures.read),
      wrote_any _ _ string_bytes _ c.text_of.result explained c.write_text.ensures.text c.write_text.ensures.none,
    )

pub returns-in-Different-clause-none : goal.returns-in-Different-clause-none
returns-in-Different-clause-none g c = λ none. nothing (λ s. g.E.Write.contents s.device) (λ s. s.failed) c.args.errors.now
