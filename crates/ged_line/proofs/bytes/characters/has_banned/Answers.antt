use Rattle.ged_line.proofs.bytes.Banned.{told_by_control, told_by_noncharacter, told_by_search}
use Rattle.ged_line.proofs.bytes.characters.has_banned.Goals as goal

pub returns-then-has_control : goal.returns-then-has_control
returns-then-has_control c =
    told_by_control c.has_control.result c.args.text.now c.utf8.text c.if-has_control.true (rw c.as_bytes-bytes.ensures.value at c.has_control.ensures)

pub returns-else-has_control : goal.returns-else-has_control
returns-else-has_control c =
    told_by_noncharacter c.has_noncharacter.result c.args.text.now c.utf8.text (rw c.as_bytes-bytes.ensures.value at c.if-has_control.ensures) (rw c.as_bytes-bytes.ensures.value at c.has_noncharacter.ensures)

pub returns-else-is_some : goal.returns-else-is_some
returns-else-is_some c =
    told_by_search c.is_some.result c.first_special.result c.args.text.now c.utf8.text c.is_some.ensures c.if-is_some.false (rw c.as_bytes-bytes.ensures.value at c.first_special.ensures)
