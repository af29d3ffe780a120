use Rattle.std.proofs.Common.{refl, ◌++◌, ◌∷◌, [], Some, decimal}
use Rattle.ged_line.specs.Lines.{xref_part}
use Rattle.std.proofs.lemmas.Result.{on_ok_weaker}
use Rattle.ged_canon.specs.Normal.{numbered}
use Rattle.ged_canon.specs.inner.Written.{written}
use Rattle.ged_canon.proofs.writer.RunsKept.{settled}
use Rattle.ged_canon.proofs.writer.answer.Answer.push_record.Goals as goal

pub returns : goal.returns
returns c =
    let line = (decimal 0 ++ 32 ∷ (xref_part (Some (numbered c.args.number)) ++ c.args.rest.now)) ++ 10 ∷ [] in
    on_ok_weaker c.push_record.result
    (settled c.args.file.now c.args.self.now.pieced.runs.items c.place.new.self.runs.items c.args.self.now.pieced.made.items c.place.new.self.made.items line (written c.args.file.now c.args.self.now) c.push_record.new.out.items c.args.self.now.start c.args.self.now.end c.replace-start.result c.replace-start.new.dest c.place.new.self.placed
    c.replace-start.ensures.value c.replace-start.ensures.after refl c.in_ok-place.ensures.joined c.place.ensures.placed)
    c.push_record.ensures.ok
