use Rattle.std.proofs.Common.{[], ◌-◌, Bor, length, take, drop, rules}
use Rattle.std.proofs.Output.{has_written_append, has_written_of_eq}
use Rattle.clap.specs.Words.{Text}
use Rattle.ged_explain.specs.declared.faults.Meaning.{Meaning}
use Rattle.ged_cmd.specs.Telling.{next_text}
use Rattle.ged_cmd.proofs.ToldLemmas.{one_more_text}
use Rattle.ged_cmd.proofs.meanings.MeaningsDisplay.fmt.Goals as goal

abbrev no_text : Bor Text
no_text = record { ref_ptr = (0, 0); now = [] }

abbrev no_meaning : Meaning
no_meaning = record { number = 0; name = no_text; title = no_text; cause = no_text; example = no_text }

pub loop-meaning-preserved : goal.loop-meaning-preserved
loop-meaning-preserved g c = λ plain.
    let others = take (length c.args.self.now.meanings.now - 1) (drop 1 c.args.self.now.meanings.now) in
    let before = c.loop-meaning.invariant plain in
    has_written_of_eq _ _ _ _ _ (one_more_text next_text others c.loop-meaning.meaning-index no_meaning c.loop-meaning-test.true)
    (has_written_append _ _ _ _ _ _ before (c.write-in-loop-meaning.ensures.writes before.plain (search rules)))
