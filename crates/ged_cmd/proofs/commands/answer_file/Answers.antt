use Rattle.std.proofs.Common.{refl, subst, sym, inr, option_map}
use Rattle.ged_tool.specs.Settings.{profile_of, edition_of}
use Rattle.ged_cmd.specs.Program.{IsOver}
use Rattle.ged_cmd.specs.Streams.{reader, writer}
use Rattle.ged_cmd.proofs.commands.answer_file.Goals as goal

-- the file that was opened is answered, and nothing is read of the input
pub returns-in-Ok-clause-answered : goal.returns-in-Ok-clause-answered
returns-in-Ok-clause-answered g c =
    subst (λ file. IsOver (g.S.Shelf.files (g.S.Shelf.stock c.args.shelf.now)) g.S.Device.Source.to_come g.S.Device.Source.failed
    (profile_of c.args.settings) (edition_of c.args.settings) c.args.command (option_map (λ name. name.now) file)
    (reader g.R.Source.to_come g.R.Source.failed c.args.input.now c.args.input.now)
    (writer g.W.Sink.taken g.W.Sink.failed c.args.writer.now c.answer-in-Ok.new.writer) c.answer-in-Ok.result.outcome)
    (sym c.in-Some.is)
    ((refl, c.requires.no_failure.0), inr (c.in-Ok.device, _, c.in-Ok.ensures.opened, c.answer-in-Ok.ensures.answered))
