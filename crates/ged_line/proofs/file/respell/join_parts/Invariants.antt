use Rattle.std.proofs.Common.{◌≡◌, ◌++◌}
use Rattle.ged_line.specs.Files.{joined_parts}
use Rattle.ged_line.proofs.file.respell.join_parts.Given as goal

-- the bytes of the parts so far are in the text
abbrev pub invariant-loop-part : goal.invariant-loop-part
invariant-loop-part l = joined_parts l.fn.parts.items ≡ l.text.items ++ joined_parts l.part-iterator.rest.items
