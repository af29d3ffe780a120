use Rattle.ged_tool.proofs.calls.CanonLaws.{headline, agrees_with_first}
use Rattle.ged_tool.proofs.laws.headline.Goals as goal

pub returns : goal.returns
returns c = record { promised = headline; second_agrees = agrees_with_first }
