use Rattle.ged_tool.proofs.laws.Comparing.{same_by_bytes, tidy_same_is_same}
use Rattle.ged_tool.proofs.laws.same_in_each_form.Goals as goal

pub returns : goal.returns
returns c = record { by_bytes = same_by_bytes; tidy_is_finer = tidy_same_is_same }
