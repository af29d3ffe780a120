use Rattle.std.proofs.Common.{arith}
use Rattle.ged_line.proofs.bytes.WholeBlocks.{pieces_of_blocks}
use Rattle.ged_line.proofs.bytes.blocks.split_block.Goals as goal

pub returns-in-Some-clause-pieces : goal.returns-in-Some-clause-pieces
returns-in-Some-clause-pieces c =
    pieces_of_blocks c.args.bytes.now c.split_at.result.0.now c.split_at.result.1.now 65536 c.in-Some.at (omega arith)
    c.in-Some.ensures.0.high c.in-Some.ensures.1 c.split_at.ensures.front c.split_at.ensures.back
