use Rattle.ged_line.proofs.file.FileLaws.{only_read}
use Rattle.ged_line.proofs.owned.lines.read_lines.Goals as goal

pub returns-clause-only : goal.returns-clause-only
returns-clause-only c = only_read c.args.bytes.now c.read_pieces.result c.read_pieces.ensures
