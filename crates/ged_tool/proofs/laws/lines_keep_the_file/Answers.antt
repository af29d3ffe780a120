use Rattle.ged_tool.proofs.laws.Respelt.{lines_keep_acceptance, lines_keep_fault, lines_keep_canon}
use Rattle.ged_tool.proofs.laws.lines_keep_the_file.Goals as goal

pub returns : goal.returns
returns c = record { accepted = lines_keep_acceptance; fault = lines_keep_fault; canon = lines_keep_canon }
