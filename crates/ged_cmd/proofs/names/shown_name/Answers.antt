use Rattle.std.proofs.Common.{string_bytes}
use Rattle.ged_cmd.proofs.Harmless.{result_harmless}
use Rattle.ged_cmd.proofs.names.shown_name.Goals as goal

pub returns-clause-harmless : goal.returns-clause-harmless
returns-clause-harmless c = result_harmless (λ told. string_bytes told) c.format.result c.new-shown.result.name.now c.format.ensures.ok
