use Rattle.std.proofs.Common.{◌<◌, length, drop, ◌∷◌, sym, ap, subst, ◌∙◌, arith}
use Rattle.ged_line.specs.Pieces.{pieces_of}
use Rattle.ged_line.proofs.bytes.Cutting.{EndsWithRest, first_piece, last_piece}
use Rattle.ged_line.proofs.file.pieces.PiecesIterator.next.Goals as goal

pub returns-in_default-clause-steps : goal.returns-in_default-clause-steps
returns-in_default-clause-steps c = sym c.self.view_is ∙ last_piece c.self.inside.rest.now c.if-is_empty.ensures c.in_default.ensures

pub returns-in_default-clause-goes : goal.returns-in_default-clause-goes
returns-in_default-clause-goes c =
    let steps = returns-in_default-clause-steps c in
    record { on = λ f. (tt, tt, omega (arith, ap length steps)); keeps = tt; rests = λ f. tt }

pub returns-clause-steps : goal.returns-clause-steps
returns-clause-steps c =
    let rest = c.self.inside.rest.now in
    let high : c.in-Some.end < length rest = c.in-Some.ensures.0.high in
    let ends : EndsWithRest (drop c.in-Some.end rest) c.after_end-self-inside.result.now =
    subst (λ xs. EndsWithRest xs c.after_end-self-inside.result.now) c.split_at.ensures.back c.after_end-self-inside.ensures in
    sym c.self.view_is ∙ first_piece rest c.in-Some.end c.after_end-self-inside.result.now (omega arith) c.in-Some.ensures.0.before ends
    ∙ ap (λ p. p ∷ pieces_of c.after_end-self-inside.result.now) (sym c.split_at.ensures.front)

pub returns-clause-goes : goal.returns-clause-goes
returns-clause-goes c =
    let steps = returns-clause-steps c in
    record { on = λ f. (tt, tt, omega (arith, ap length steps)); keeps = tt; rests = λ f. tt }
