use Rattle.std.proofs.Common.{◌≤◌, length, arith}
use Rattle.std.proofs.lemmas.Str.{IsCharBoundary-after_ascii}
use Rattle.ged_tree.proofs.table.TextParts.{first_is_space}
use Rattle.ged_tree.proofs.table.structure.payload_behind_tag.Goals as goal

pub range_from-requires-in_default : goal.range_from-requires-in_default
range_from-requires-in_default c =
    let part = c.args.part.now in
    let some : 1 ≤ length part = omega arith in
    λ l. IsCharBoundary-after_ascii part 0 c.utf8.part some (omega (arith, first_is_space c.requires.0 part c.requires.2 some))
