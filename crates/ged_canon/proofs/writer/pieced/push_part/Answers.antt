use Rattle.std.proofs.Common.{◌≡◌, ◌++◌, ◌+◌, length, ap, ◌∙◌, take, arith}
use Rattle.std.proofs.Math.Seq.{take-append-add}
use Rattle.std.proofs.lemmas.List.{take-take}
use Rattle.ged_canon.proofs.writer.pieced.push_part.Goals as goal

pub returns-clause-ok : goal.returns-clause-ok
returns-clause-ok c =
    let made = c.args.made.now.items in
    let count : c.len.result ≡ length made = omega (arith, c.len.ensures) in
    let whole = c.in_ok-extend_from_slice.ensures.items in
    c.truncate.ensures.items
    ∙ ap (take (c.len.result + c.args.count)) whole
    ∙ ap (λ n. take (n + c.args.count) (made ++ c.in-Some.block.now)) count
    ∙ take-append-add made c.in-Some.block.now c.args.count
    ∙ ap (λ kept. made ++ kept) (ap (take c.args.count) c.in-Some.ensures.cases.same
    ∙ take-take c.args.count 32 c.front_of.result.1.now (omega arith) ∙ ap (take c.args.count) c.front_of.ensures.rest)
