use Rattle.std.proofs.Common.{◌≡◌, ◌+◌, drop, length}
use Rattle.ged_line.specs.Files.{joined_parts}
use Rattle.ged_c.proofs.respelling.length_of.Given as goal

-- what is counted, and what is left
abbrev pub invariant-loop-part : goal.invariant-loop-part
invariant-loop-part l = l.length + length (joined_parts (drop l.part-index l.parts)) ≡ length (joined_parts l.parts)
