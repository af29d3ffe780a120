use Rattle.std.proofs.Common.{length}
use Rattle.ged_value.proofs.name.+behind_name_part.Given as goal

abbrev pub decreases-behind_name_part : goal.decreases-behind_name_part
decreases-behind_name_part l = length l.bytes.now
