use Rattle.std.proofs.Common.{◌≡◌, ◌-◌, slice_get, option_map, arith, refl}
use Rattle.std.proofs.lemmas.Iterator.Consumers.{nth_from_yields_List, YieldsList-from_first}
use Rattle.ged_explain.proofs.pieces.piece_at.Goals as goal

pub returns-clause-found : goal.returns-clause-found
returns-clause-found c = λ some.
    let before : c.in_ok-before.before ≡ c.args.line - 1 = omega (arith, c.in_ok-before.ensures) in
    let found : option_map (λ piece. piece.now) c.nth.result ≡ slice_get c.split_pieces.result c.in_ok-before.before =
    nth_from_yields_List c.nth.result c.nth.new.self c.in_ok-before.before c.nth.ensures.ran
    (YieldsList-from_first (λ x. x.now) (λ pieces. pieces) c.split_pieces.result refl) in
    (c.split_pieces.result, c.split_pieces.ensures, rw before at found)
