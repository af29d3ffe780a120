use Rattle.std.proofs.Common.{◌≡◌, ◌++◌, length}
use Rattle.ged_line.specs.Bytes.{Bytes}
use Rattle.ged_canon.proofs.spelled.reader.FormReader.passes.Given as goal

-- a front of the text was read, and the text behind it is left
abbrev pub invariant-loop-left : goal.invariant-loop-left
invariant-loop-left l = (front : Bytes) × (l.text ≡ front ++ l.left) × (l.fn.self ≡ front ++ l.self)

abbrev pub decreases-loop-left : goal.decreases-loop-left
decreases-loop-left l = length l.left
