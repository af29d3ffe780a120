use Rattle.std.proofs.Common.{◌∷◌, ◌++◌, sym, ◌∙◌, ap, arith, decimal}
use Rattle.std.proofs.lemmas.Str.{IsCharBoundary-after_ascii}
use Rattle.ged_line.proofs.line.Levels.{behind_one, behind_two}
use Rattle.ged_line.proofs.line.read.view_long_level.Goals as goal

pub range_from-requires : goal.range_from-requires
range_from-requires c =
    let found = c.in-Ok.ensures in
    let behind = behind_one c.args.text.now c.in-Ok.level found.1.0 c.if-level-lt10.true found.1.1 in
    λ l. IsCharBoundary-after_ascii c.args.text.now 1 c.utf8.text behind.0 (omega (arith, behind.1))

pub range_from-requires-in-Ok-2 : goal.range_from-requires-in-Ok-2
range_from-requires-in-Ok-2 c =
    let found = c.in-Ok.ensures in
    let behind = behind_two c.args.text.now c.in-Ok.level found.1.0 c.if-level-lt10.false found.0 found.1.1 in
    λ l. IsCharBoundary-after_ascii c.args.text.now 2 c.utf8.text behind.0 (omega (arith, behind.1))

pub returns-in-Ok : goal.returns-in-Ok
returns-in-Ok c =
    let found = c.in-Ok.ensures in
    let behind = behind_one c.args.text.now c.in-Ok.level found.1.0 c.if-level-lt10.true found.1.1 in
    (found.0, found.1.1 ∙ ap (λ rest. decimal c.in-Ok.level ++ (32 ∷ rest)) (sym behind.2 ∙ sym c.range_from.ensures.value))

pub returns-in-Ok-2 : goal.returns-in-Ok-2
returns-in-Ok-2 c =
    let found = c.in-Ok.ensures in
    let behind = behind_two c.args.text.now c.in-Ok.level found.1.0 c.if-level-lt10.false found.0 found.1.1 in
    (found.0, found.1.1 ∙ ap (λ rest. decimal c.in-Ok.level ++ (32 ∷ rest)) (sym behind.2 ∙ sym c.range_from-in-Ok-2.ensures.value))
