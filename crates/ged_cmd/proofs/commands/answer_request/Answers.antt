use Rattle.std.proofs.Common.{[], refl, sym, ◌∙◌, subst}
use Rattle.ged_cmd.specs.Program.{IsDone}
use Rattle.ged_cmd.specs.Streams.{reader, writer}
use Rattle.ged_cmd.specs.declared.words.Request.{Request}
use Rattle.ged_cmd.specs.inner.Tasks.{task_of}
use Rattle.ged_cmd.proofs.ShelfLemmas.{none_called}
use Rattle.ged_cmd.proofs.commands.answer_request.Goals as goal

pub returns-in-Explain : goal.returns-in-Explain
returns-in-Explain g c = record {
  done = (
    [],
    none_called (g.S.Shelf.calls c.args.shelf.now),
    subst (λ (request : Request). IsDone (g.S.Shelf.files (g.S.Shelf.stock c.args.shelf.now)) g.S.Device.Source.to_come g.S.Device.Source.failed
        g.S.Draft.Sink.taken g.S.Draft.Sink.failed g.S.Draft.Sink.fate (task_of request) (reader g.R.Source.to_come g.R.Source.failed c.args.input.now c.args.input.now)
        (writer (λ s. g.W.Write.contents s.device) (λ s. s.failed) c.args.output.now c.tell_meanings.new.output) [] c.without_bytes.result.outcome) (sym c.in-Explain.is) (
          record {
            unread = (refl, c.requires.no_failure.0);
            told = c.without_bytes.ensures.outcome ∙ c.tell_meanings.ensures.outcome;
            printed = c.tell_meanings.ensures.printed;
          },
          refl,
        ),
  );
}
