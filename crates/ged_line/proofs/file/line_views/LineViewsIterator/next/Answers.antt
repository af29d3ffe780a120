use Rattle.std.proofs.Common.{◌++◌, List, length, sym, ap, ◌∙◌, arith}
use Rattle.ged_line.specs.Bytes.{Bytes}
use Rattle.ged_line.specs.Pieces.{pieces_of}
use Rattle.ged_line.proofs.bytes.WholeBlocks.{first_behind}
use Rattle.ged_line.proofs.bytes.Cutting.{first_of_pieces}
use Rattle.ged_line.proofs.file.line_views.LineViewsIterator.next.Goals as goal

pub returns-in-Some-next-clause-steps : goal.returns-in-Some-next-clause-steps
returns-in-Some-next-clause-steps c =
    let piece = c.in-Some-next.piece.now in (
      piece,
      first_behind c.args.self.now (pieces_of c.self.inside.text.now) c.self.inside.pieces c.next.new.self (pieces_of c.self.inside.unread.now) piece
          c.self.view_is (ap pieces_of c.in_default.ensures.line) c.in-Some-next.ensures.steps,
      c.spelled_line.ensures,
    )

pub returns-in-Some-clause-steps : goal.returns-in-Some-clause-steps
returns-in-Some-clause-steps c =
    let (piece, first, told) = c.in-Some.ensures.line in (
      piece,
      sym c.self.view_is ∙ ap (λ ps. ps ++ (c.self.inside.pieces ++ pieces_of c.self.inside.unread.now)) (first_of_pieces c.self.inside.text.now piece c.in-Some.after.now first),
      told,
    )

pub returns-in-Some-clause-goes : goal.returns-in-Some-clause-goes
returns-in-Some-clause-goes c =
    let fewer = ap (λ (pieces : List Bytes). length pieces) (returns-in-Some-clause-steps c).1 in
    record { on = λ finite. (tt, tt, omega (arith, fewer)); keeps = tt; rests = λ finite. tt }
