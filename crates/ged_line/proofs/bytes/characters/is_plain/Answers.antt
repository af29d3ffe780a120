use Rattle.std.proofs.Common.{ap, not}
use Rattle.std.proofs.lemmas.Str.{is_utf8-from_IsUtf8}
use Rattle.ged_line.proofs.bytes.characters.is_plain.Goals as goal

pub returns : goal.returns
returns c = rw (is_utf8-from_IsUtf8 c.args.text.now c.utf8.text) (ap not c.has_banned.ensures)
