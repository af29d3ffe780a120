use Rattle.std.proofs.Common.{sym, ◌∙◌, ap, ◌∷◌, ◌++◌}
use Rattle.ged_line.specs.Pieces.{pieces_of}
use Rattle.ged_line.proofs.bytes.Cutting.{first_of_pieces, pieces_only}
use Rattle.ged_line.proofs.bytes.WholeBlocks.{no_pieces, none_before, first_of_block}
use Rattle.ged_line.proofs.file.line_views.first_of_blocks.Goals as goal

pub returns-in_default : goal.returns-in_default
returns-in_default c =
    let block = c.split_block.result.0.now in
    let piece = c.in-Some.piece.now in (
      piece,
      first_of_block c.args.bytes.now block piece c.next.new.self (pieces_of c.split_block.result.1.now) c.split_block.ensures.pieces
          (sym (pieces_only c.cut_pieces-pieces.result block c.cut_pieces-pieces.ensures) ∙ c.in-Some.ensures.steps),
      c.spelled_line.ensures,
    )

pub returns-in_default-first_line : goal.returns-in_default-first_line
returns-in_default-first_line c =
    no_pieces c.args.bytes.now c.split_block.result.0.now c.split_block.ensures.some (ap pieces_of (rw c.in-Ok.ensures.0 at c.in_default-first_line.ensures.line))

pub returns : goal.returns
returns c =
    let block = c.split_block.result.0.now in
    let after = pieces_of c.in-Some-first_line.text.now in
    let rest = pieces_of c.split_block.result.1.now in
    let first = c.in-Some-first_line.ensures.line in (
      first.0,
      first_of_block c.args.bytes.now block first.0 after rest c.split_block.ensures.pieces (ap pieces_of (sym c.in-Ok.ensures.0) ∙ first_of_pieces c.in-Ok.text.now first.0 c.in-Some-first_line.text.now first.1)
          ∙ ap (λ ps. first.0 ∷ (after ++ ps)) (sym (none_before c.cut_pieces.result rest c.cut_pieces.ensures)),
      first.2,
    )
