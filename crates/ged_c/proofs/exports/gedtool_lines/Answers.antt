use Rattle.ged_c.proofs.Lengths.{lines_are_short}
use Rattle.ged_c.proofs.exports.gedtool_lines.Goals as goal

pub returns-clause-short : goal.returns-clause-short
returns-clause-short c = lines_are_short _ _ _ _ _ _ _ c.answer_file.ensures
