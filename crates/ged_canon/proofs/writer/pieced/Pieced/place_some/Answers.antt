use Rattle.std.proofs.Common.{◌-◌, ◌++◌, ◌∙◌, ap, take, drop, rules, arith}
use Rattle.ged_canon.specs.SpelledForms.{joined_runs}
use Rattle.ged_canon.specs.inner.Runs.{made_before}
use Rattle.ged_canon.proofs.writer.RunsKept.{joined_more, before_last, joined_last}
use Rattle.ged_canon.proofs.writer.pieced.Pieced.place_some.Goals as goal

pub returns-in_default-clause-joined : goal.returns-in_default-clause-joined
returns-in_default-clause-joined c =
    let (placed, few) = c.requires.placed in
    let more = joined_more c.args.file.now c.args.self.now.runs.items c.args.self.now.made.items (take (c.args.end - c.args.start) (drop c.args.start c.args.file.now)) (omega (arith, placed, few)) in
    search rules

pub returns-clause-placed : goal.returns-clause-placed
returns-clause-placed c =
    let (placed, few) = c.requires.placed in
    let last = before_last c.args.self.now.runs.items c.in-Some.run' in
    (ap made_before c.in_ok-push.ensures.items ∙ omega (arith, last, placed, few, c.in-Some.ensures.0, c.len.ensures, c.len-self.ensures), omega (arith, c.len-self.ensures))

pub returns-clause-joined : goal.returns-clause-joined
returns-clause-joined c =
    let (placed, few) = c.requires.placed in
    let (made, start, length_is) = c.in-Some.ensures in
    ap (λ runs. joined_runs c.args.file.now runs c.args.self.now.made.items) c.in_ok-push.ensures.items
    ∙ joined_last c.args.file.now c.args.self.now.runs.items c.args.self.now.made.items c.in-Some.run' (omega (arith, placed, few)) (omega (arith, placed, made, c.len.ensures))
    ∙ (λ i. joined_runs c.args.file.now c.args.self.now.runs.items c.args.self.now.made.items ++ take (length_is i) (drop (start i) c.args.file.now))
