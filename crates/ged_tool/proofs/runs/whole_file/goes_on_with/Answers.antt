use Rattle.std.proofs.Common.{◌≡◌, ◌+◌, ◌-◌, ◌++◌, ℕ, take, drop, take-add, ap, sym, ◌∙◌, length, arith}
use Rattle.ged_line.specs.Bytes.{Bytes}
use Rattle.ged_tool.proofs.runs.whole_file.goes_on_with.Goals as goal

pub returns-in-Some-clause-same : goal.returns-in-Some-clause-same
returns-in-Some-clause-same c same =
    let count = c.args.count in
    let more = c.args.more.now in
    let bytes = c.args.bytes.now in
    let steps : length more ≡ (count + length more) - count = omega arith in
    let next : take ((count + length more) - count) (drop count bytes) ≡ more = sym c.in-Some.ensures.lookup.0.2 ∙ c.are_equal.ensures.0 same in
    take-add count (length more) bytes ∙ ap (λ (behind : Bytes). take count bytes ++ behind) (ap (λ (n : ℕ). take n (drop count bytes)) steps ∙ next)
