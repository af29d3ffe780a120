use Rattle.std.proofs.Common.{◌==◌, ◌∙◌}
use Rattle.ged_tree.proofs.table.Searches.{before_found, before_none}
use Rattle.ged_tree.proofs.table.structure.before_byte.Goals as goal

pub returns-in-Some : goal.returns-in-Some
returns-in-Some c =
    let found = rw c.as_bytes.ensures.value at c.in-Some.ensures in
    c.range.ensures.value ∙ before_found (λ b. b == c.args.byte) c.args.text.now c.in-Some.end found

pub returns-in-None : goal.returns-in-None
returns-in-None c = before_none (λ b. b == c.args.byte) c.args.text.now (rw c.as_bytes.ensures.value at c.in-None.ensures)
