use Rattle.ged_tool.proofs.calls.TidyLaws.{headline}
use Rattle.ged_tool.proofs.laws.tidy_headline.Goals as goal

pub returns : goal.returns
returns c = headline
