use Rattle.std.proofs.Common.{◌≡◌, ◌∷◌, take}
use Rattle.ged_tree.specs.Trees.{further_lines}
use Rattle.ged_tree.specs.Places.{structure_at}
use Rattle.ged_document.proofs.copying.copy_text.Given as goal

abbrev pub invariant-loop-number : goal.invariant-loop-number
invariant-loop-number g l = l.lines.items ≡ l.first ∷ take l.number (further_lines (structure_at (g.F.Forest.trees l.forest) l.place).payload)
