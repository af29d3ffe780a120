use Rattle.std.proofs.Common.{refl}
use Rattle.ged_schema.proofs.LineOpening.{no_line_walked}
use Rattle.ged_schema.proofs.line_walk.LineWalk.new.Goals as goal

pub returns : goal.returns
returns c = no_line_walked _ refl refl
