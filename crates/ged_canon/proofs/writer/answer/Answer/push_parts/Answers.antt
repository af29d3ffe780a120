use Rattle.std.proofs.Common.{refl, ◌++◌, ◌∷◌, []}
use Rattle.std.specs.Option.{option_copied}
use Rattle.ged_line.specs.Lines.{line_parts}
use Rattle.ged_line.specs.Spelling.{spelling}
use Rattle.ged_line.specs.Views.{viewed_value}
use Rattle.std.proofs.lemmas.Result.{on_ok_weaker}
use Rattle.ged_canon.specs.inner.Written.{written}
use Rattle.ged_canon.proofs.writer.RunsKept.{settled}
use Rattle.ged_canon.proofs.writer.answer.Answer.push_parts.Goals as goal

pub returns : goal.returns
returns c =
    let line = spelling (line_parts c.args.level (option_copied c.args.xref) c.args.tag.now (viewed_value c.args.value)) ++ 10 ∷ [] in
    on_ok_weaker c.write_parts.result
    (settled c.args.file.now c.args.self.now.pieced.runs.items c.place.new.self.runs.items c.args.self.now.pieced.made.items c.place.new.self.made.items line (written c.args.file.now c.args.self.now) c.write_parts.new.out.items c.args.self.now.start c.args.self.now.end c.replace-start.result c.replace-start.new.dest c.place.new.self.placed
    c.replace-start.ensures.value c.replace-start.ensures.after refl c.in_ok-place.ensures.joined c.place.ensures.placed)
    c.write_parts.ensures.ok
