use Rattle.ged_tool.proofs.laws.Digests.{one_digest, same_digest, canon_keeps_digest}
use Rattle.ged_tool.proofs.laws.same_have_one_digest.Goals as goal

pub returns : goal.returns
returns c = record { one_digest = one_digest; same = same_digest; canon = canon_keeps_digest }
