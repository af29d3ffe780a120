use Rattle.std.proofs.Common.{◌∙◌, ap, refl, arith, slice_range}
use Rattle.ged_line.specs.Bytes.{Bytes}
use Rattle.ged_line.specs.Spelling.{value_part}
use Rattle.ged_tree.specs.Places.{structure_at}
use Rattle.ged_tree.specs.DocumentLines.{first_value}
use Rattle.ged_canon.proofs.writer.plan.Writer.plain_run.Goals as goal

pub returns-clause-line : goal.returns-clause-line
returns-clause-line g c =
    let writer = c.args.self.now in
    ap (λ (bytes : Bytes). slice_range bytes c.in_ok-start.start c.in_ok-start.end) writer.same
    ∙ c.in_ok-start.ensures.line (g.F.Forest.trees writer.forest.now) writer.told

pub returns-clause-plain : goal.returns-clause-plain
returns-clause-plain g c =
    let writer = c.args.self.now in
    let d = g.F.Forest.trees writer.forest.now in
    let s = structure_at d c.args.place in
    let line = ap (λ (bytes : Bytes). slice_range bytes c.in_ok-start.start c.in_ok-start.end) c.text.ensures ∙ c.in_ok-start.ensures.line d writer.told in
    c.if-not-stays.ensures refl c.args.level s.tag (value_part (first_value s.payload)) (omega (arith, c.if-level-gt9.false)) line
