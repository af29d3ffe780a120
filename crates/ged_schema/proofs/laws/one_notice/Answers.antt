use Rattle.ged_schema.proofs.NoticeLaws.{two_lines}
use Rattle.ged_schema.proofs.laws.one_notice.Goals as goal

pub returns : goal.returns
returns c = two_lines
