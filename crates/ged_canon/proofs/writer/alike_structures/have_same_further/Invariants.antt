use Rattle.std.proofs.Common.{◌≡◌, take}
use Rattle.ged_canon.proofs.writer.alike_structures.have_same_further.Given as goal

-- the lines so far are the same
abbrev pub invariant-loop-number : goal.invariant-loop-number
invariant-loop-number g l = take l.number l.lines ≡ take l.number l.other_lines
