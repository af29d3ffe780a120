use Rattle.ged_line.proofs.bytes.Banned.{some_line_text}
use Rattle.ged_line.proofs.bytes.characters.is_line_text.Goals as goal

pub returns-then-not-is_empty : goal.returns-then-not-is_empty
returns-then-not-is_empty c = some_line_text c.args.text.now c.has_banned.result c.if-not-is_empty.ensures c.utf8.text c.has_banned.ensures
