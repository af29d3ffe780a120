use Rattle.std.proofs.Common.{◌-◌, ◌∙◌, sym, ap, length, take, drop, arith}
use Rattle.std.specs.Prelude.{◌==◌, ◌||◌}
use Rattle.std.specs.List.{list_any}
use Rattle.ged_canon.proofs.writer.LetterRuns.{ends_have}
use Rattle.ged_canon.proofs.writer.letters.has_g.Goals as goal

pub returns-else-has_g_in_run : goal.returns-else-has_g_in_run
returns-else-has_g_in_run c =
    let last = length c.args.bytes.now - 16 in
    ap (λ first. first || c.has_g_in_run-else-has_g_in_run.result) (sym c.if-has_g_in_run.false)
    ∙ (λ i. c.has_g_in_run.ensures i || c.has_g_in_run-else-has_g_in_run.ensures i)
    ∙ ends_have c.args.bytes.now last 16 (omega (arith, c.if-bytes.false)) (omega (arith, c.if-bytes-lt-RUN.false))

pub returns-then-has_g_in_run : goal.returns-then-has_g_in_run
returns-then-has_g_in_run c =
    let last = length c.args.bytes.now - 16 in
    c.if-has_g_in_run.true
    ∙ ap (λ first. first || list_any (λ b. b == 71) (take 16 (drop last c.args.bytes.now))) (sym c.if-has_g_in_run.true ∙ c.has_g_in_run.ensures)
    ∙ ends_have c.args.bytes.now last 16 (omega (arith, c.if-bytes.false)) (omega (arith, c.if-bytes-lt-RUN.false))
