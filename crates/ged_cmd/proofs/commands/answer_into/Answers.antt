use Rattle.std.proofs.Common.{[], ◌∷◌, inr, option_map, refl}
use Rattle.ged_cmd.specs.Shelves.{drafting, opening_named}
use Rattle.ged_cmd.proofs.FlushLemmas.{flushed_over}
use Rattle.ged_cmd.proofs.ShelfLemmas.{called_on}
use Rattle.ged_cmd.proofs.commands.answer_into.Goals as goal

pub returns : goal.returns
returns g c =
    let answered = rw c.in-Ok.ensures.same at c.answer_file-told.ensures.answered in
    record {
      done = (
        drafting c.args.name.now ∷ opening_named (option_map (λ name. name.now) c.args.file),
        called_on (g.S.Shelf.calls c.args.shelf.now) (g.S.Shelf.calls c.draft.new.self) (g.S.Shelf.calls c.answer_file-told.new.shelf) (drafting c.args.name.now ∷ [])
            (opening_named (option_map (λ name. name.now) c.args.file)) c.in-Ok.ensures.called c.answer_file-told.ensures.called,
        inr (
          (
            c.in-Ok.draft,
            c.settled.new.draft,
            c.in-Ok.ensures.drafted,
            c.in-Ok.ensures.empty,
            c.in-Ok.ensures.pending,
            flushed_over (g.S.Shelf.files (g.S.Shelf.stock c.args.shelf.now)) g.S.Device.Source.to_come g.S.Device.Source.failed _ _ _ _ _ _ _ _ _ _
                c.answer_file-told.result.outcome c.settled.result answered c.settled.ensures.flushed,
            c.settled.ensures.fate,
          ),
          refl,
        ),
      );
    }
