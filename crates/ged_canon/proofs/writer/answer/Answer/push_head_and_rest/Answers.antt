use Rattle.std.proofs.Common.{refl, ◌≡◌, ◌++◌, ◌∷◌, [], ◌∙◌, ap, decimal}
use Rattle.std.specs.Option.{option_copied}
use Rattle.ged_line.specs.Lines.{xref_part}
use Rattle.ged_canon.specs.inner.Written.{written}
use Rattle.ged_canon.proofs.writer.RunsKept.{settled, head_and_rest}
use Rattle.ged_canon.proofs.writer.answer.Answer.push_head_and_rest.Goals as goal

pub returns : goal.returns
returns c =
    let name = xref_part (option_copied c.args.xref) in
    let rest = c.args.rest.now in
    let line = (decimal c.args.level ++ 32 ∷ (name ++ rest)) ++ 10 ∷ [] in
    let made : c.push.new.self.items ≡ c.place.new.self.made.items ++ line =
    c.in_ok-push.ensures.items ∙ head_and_rest c.place.new.self.made.items (decimal c.args.level) name rest _ _
    c.in_ok-write_head.ensures.ok (c.in_ok-extend_from_slice.ensures.items ∙ ap (λ xs. c.write_head.new.out.items ++ xs) c.as_bytes.ensures.value) in
    settled c.args.file.now c.args.self.now.pieced.runs.items c.place.new.self.runs.items c.args.self.now.pieced.made.items c.place.new.self.made.items line (written c.args.file.now c.args.self.now) c.push.new.self.items c.args.self.now.start c.args.self.now.end c.replace-start.result c.replace-start.new.dest c.place.new.self.placed
    c.replace-start.ensures.value c.replace-start.ensures.after refl c.in_ok-place.ensures.joined c.place.ensures.placed made
