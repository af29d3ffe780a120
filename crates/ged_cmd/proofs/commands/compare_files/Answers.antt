use Rattle.std.proofs.Common.{[], ◌∷◌, inl, inr, refl, rules}
use Rattle.ged_cmd.specs.Shelves.{opening}
use Rattle.ged_cmd.proofs.ShelfLemmas.{called_on}
use Rattle.ged_cmd.proofs.commands.compare_files.Goals as goal

pub returns-in-Ok-open : goal.returns-in-Ok-open
returns-in-Ok-open g c = record {
  done = (
    opening c.args.first.now ∷ opening c.in-Some.name.now ∷ [],
    called_on (g.S.Shelf.calls c.args.shelf.now) (g.S.Shelf.calls c.open.new.self) (g.S.Shelf.calls c.open-in-Some.new.self) (opening c.args.first.now ∷ [])
        (opening c.in-Some.name.now ∷ []) c.in-Ok.ensures.called c.in-Ok-open.ensures.called,
    rw c.in-Some.is (search rules, inr (inr (search rules), refl)),
  );
}

pub returns : goal.returns
returns g c = record {
  done = (
    opening c.args.first.now ∷ opening c.in-Some.name.now ∷ [],
    called_on (g.S.Shelf.calls c.args.shelf.now) (g.S.Shelf.calls c.open.new.self) (g.S.Shelf.calls c.open-in-Some.new.self) (opening c.args.first.now ∷ [])
        (opening c.in-Some.name.now ∷ []) c.in-Ok.ensures.called c.in-Err-open.ensures.called,
    rw c.in-Some.is (search rules, inr (inl (search rules), refl)),
  );
}
