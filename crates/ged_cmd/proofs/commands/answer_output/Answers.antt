use Rattle.ged_cmd.proofs.FlushLemmas.{flushed_over}
use Rattle.ged_cmd.proofs.commands.answer_output.Goals as goal

pub returns-clause-done : goal.returns-clause-done
returns-clause-done g c =
    flushed_over (g.S.Shelf.files (g.S.Shelf.stock c.args.shelf.now)) g.S.Device.Source.to_come g.S.Device.Source.failed _ _ _ _ _ _ _ _ _ _
    c.answer_file-told.result.outcome c.flushed_told.result.outcome c.answer_file-told.ensures.answered c.flushed_told.ensures
