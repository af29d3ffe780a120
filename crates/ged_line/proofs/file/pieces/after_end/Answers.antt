use Rattle.std.proofs.Common.{arith}
use Rattle.ged_line.proofs.bytes.Cutting.{both_end, one_end}
use Rattle.ged_line.proofs.file.pieces.after_end.Goals as goal
use Rattle.ged_line.proofs.file.pieces.after_end.Goals.{else-bytes-eq13-via-then-bytes-eq13+then-bytes-gt1+else-bytes-eq10, else-bytes-eq13-via-then-bytes-eq13+else-bytes-gt1, else-bytes-eq13-via-else-bytes-eq13}

pub returns-then-bytes-eq10 : goal.returns-then-bytes-eq10
returns-then-bytes-eq10 c = both_end c.args.bytes.now c.if-bytes-gt1.true c.if-bytes-eq13.true c.if-bytes-eq10.true

pub returns : goal.returns
returns c = one_end c.args.bytes.now c.requires.some c.requires.is_end (λ e l.
    elim c.else-bytes-eq13.branch [
      | else-bytes-eq13-via-then-bytes-eq13+then-bytes-gt1+else-bytes-eq10 w ↦ w.if-bytes-eq10.false
      | else-bytes-eq13-via-then-bytes-eq13+else-bytes-gt1 w ↦ absurd (omega (arith, w.if-bytes-gt1.false))
      | else-bytes-eq13-via-else-bytes-eq13 w ↦ absurd (w.if-bytes-eq13.false e)
    ])
